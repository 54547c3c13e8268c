-- Bytes put after those that were put before.
use Prim.Native.Nat.{ℕ, ◌+◌, ◌≤◌}
use mathlib.Core.Path.{◌≡◌, sym, ap, ◌∙◌}
use mathlib.Core.List.{List, ◌++◌, append_assoc}
use native.Mathlib.Omega.{arith}
use lib.ListN.{length, take, drop, length-append, length-take, length-drop}
use lib.Seq.{take_at, drop_at, drop-drop}
use Rattle.report_text.specs.Output.{Puts}

module _ {out : List ℕ} {at : ℕ} {xs mid : List ℕ} {m : ℕ} (p : Puts out at xs mid m) (fits : m ≤ length out) where
  -- The buffer keeps its length.
  pub put_length : length mid ≡ length out
  put_length =
      ap length p.all
      ∙ omega (arith, p.place, length-append (take at out) (xs ++ rest), length-append xs rest, length-take at out, length-drop (at + length xs) out)
    where
      rest : List ℕ
      rest = drop (at + length xs) out

  -- What is put there next comes after it.
  pub put_next : {ys out' : List ℕ} {r : ℕ} → Puts mid m ys out' r → Puts out at (xs ++ ys) out' r
  put_next {ys} q = record { place = omega (arith, p.place, q.place, length-append xs ys); all = q.all ∙ joined }
    where
      start : List ℕ
      start = take at out ++ xs

      parts : mid ≡ start ++ drop (at + length xs) out
      parts = p.all ∙ sym (append_assoc (take at out) xs (drop (at + length xs) out))

      size : length start ≡ m
      size = omega (arith, length-append (take at out) xs, length-take at out, p.place)

      both : at + length xs + length ys ≡ at + length (xs ++ ys)
      both = omega (arith, length-append xs ys)

      rest : drop (m + length ys) mid ≡ drop (at + length (xs ++ ys)) out
      rest =
          sym (drop-drop (length ys) m mid) ∙ ap (drop (length ys)) (ap (drop m) parts ∙ drop_at start (drop (at + length xs) out) m size)
          ∙ drop-drop (length ys) (at + length xs) out ∙ ap (λ (k : ℕ). drop k out) both

      joined : take m mid ++ (ys ++ drop (m + length ys) mid) ≡ take at out ++ ((xs ++ ys) ++ drop (at + length (xs ++ ys)) out)
      joined =
          ap (λ (l : List ℕ). l ++ (ys ++ drop (m + length ys) mid)) (ap (take m) parts ∙ take_at start (drop (at + length xs) out) m size)
          ∙ ap (λ (l : List ℕ). start ++ (ys ++ l)) rest ∙ simp append_assoc
