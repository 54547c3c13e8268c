-- A run of bytes that stand for themselves is a part of the string's content, and of its canonical form.
use Prim.Native.Nat.{ℕ, zero, suc, ◌+◌, ◌-◌, ◌≤◌, ◌<◌}
use mathlib.Core.Path.{◌≡◌, refl, sym, ap, ◌∙◌}
use mathlib.Core.List.{List, [], ◌∷◌, ◌++◌, append_assoc}
use mathlib.Core.Bool.{true}
use native.Mathlib.Omega.{arith}
use native.Mathlib.Nat.{add-zero}
use lib.ListN.{length, take, drop, get_or, length-drop}
use lib.Seq.{take-suc, get_or-drop}
use Rattle.text_json.specs.Content.{escaped}
use Rattle.text_chars.specs.Measure.{unmarked_run}
use Rattle.text_chars.proofs.Plain.{unmarked_parts, unmarked_at}
use Rattle.laws.proofs.Spans.{span_less}
use Rattle.text_strings.specs.InString.{InString}
use Rattle.text_strings.proofs.Cursors.{plain}
use Rattle.text_printer.specs.Unmarked.{Unmarked}
use Rattle.text_printer.proofs.Escaped.{escaped_plain}

-- of the content c from position k on, the next n bytes stand for themselves
pub record Run (s : List ℕ) (k n : ℕ) (c : List ℕ) : Type 0 where
  pub left : List ℕ
  pub joins : escaped c ≡ take n (drop k s) ++ escaped left
  pub inside : InString s (k + n) left

-- Bytes that are tested at once.
pub unmarked_run_is : (s : List ℕ) (i n : ℕ) → i ≤ length s → unmarked_run n (drop i s) ≡ true → Unmarked s i (i + n)
unmarked_run_is s i n h e =
    let p = unmarked_parts n (drop i s) e in
    let l = rw (length-drop i s) at p.0 in
    record {
      up = omega arith;
      fits = omega arith;
      all = λ k a b. let q : i + (k - i) ≡ k = omega arith in rw q at (unmarked_at s i n p.0 p.1 (k - i) (omega arith));
    }

-- A run of bytes of a string's content stand for themselves, in the content and in its canonical form.
pub runs : (s : List ℕ) (k n : ℕ) (c : List ℕ) → InString s k c → Unmarked s k (k + n) → Run s k n c
runs s k zero c p u = record { left = c; joins = refl; inside = rw (add-zero k) p }
runs s k (suc n) c p u =
    let r = runs s k n c p (span_less _ s k (k + n) (k + suc n) u (omega arith) (omega arith)) in
    let b = u.all (k + n) (omega arith) (omega arith) in
    let x = plain s (k + n) r.left r.inside b.0 b.1 in
    let l : n < length (drop k s) = omega (arith, u.fits, length-drop k s) in
    let step : take (suc n) (drop k s) ≡ take n (drop k s) ++ (get_or s (k + n) 0 ∷ []) = rw (take-suc (drop k s) n 0 l, get_or-drop k s n 0) in
    let on : k + n + 1 ≡ k + suc n = omega arith in
    record {
      left = x.0;
      joins = r.joins
          ∙ ap (λ (t : List ℕ). take n (drop k s) ++ t) (ap escaped x.1 ∙ escaped_plain (get_or s (k + n) 0) x.0 b.0 b.1)
          ∙ sym (append_assoc (take n (drop k s)) (get_or s (k + n) 0 ∷ []) (escaped x.0))
          ∙ ap (λ (t : List ℕ). t ++ escaped x.0) (sym step);
      inside = rw on at x.2;
    }
