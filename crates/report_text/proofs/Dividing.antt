-- A line is divided at its first space.
use Prim.Native.Nat.{ℕ, suc, ◌+◌, ◌≤◌, ◌<◌, min}
use mathlib.Core.Path.{◌≡◌, sym, ap, ◌∙◌}
use mathlib.Core.List.{List}
use native.Mathlib.Omega.{arith}
use native.Mathlib.Numerals.{add-one}
use lib.Dec.{leb}
use lib.ListN.{length, take, drop, drop_of_length-le}
use borrow.Author.Tests.{leb-true, leb-false}
use Rattle.laws.proofs.Order.{by_test}
use Rattle.report_text.specs.Lines.{before, id_part, manifest_part}
use Rattle.report_text.proofs.Marks.{before_take, after_drop}

-- To drop more than a list has is to drop all of it.
drop_least : (n p : ℕ) (l : List ℕ) → p ≡ min n (length l) → drop p l ≡ drop n l
drop_least n p l e =
    by_test (leb n (length l))
    (λ t. let h : n ≤ length l = leb-true _ _ t in let g : p ≡ n = omega arith in ap (λ (k : ℕ). drop k l) g)
    (λ t. let h : length l < n = leb-false _ _ t in drop_of_length-le l {i = p} (omega arith) ∙ sym (drop_of_length-le l {i = n} (omega arith)))

-- The parts of a line by the place of the first space, or the end.
module _ (line : List ℕ) (r : ℕ) (e : r ≡ 0 + length (before 0x20 line)) where
  found : r ≡ length (before 0x20 line)
  found = omega arith

  -- The bytes before the first space are the Image ID of the line.
  pub id_taken : take r line ≡ id_part line
  unfolding id_part
  id_taken = rw found (sym (before_take 0x20 line))

  -- The bytes after the first space are the manifest of the line, none where there is no space.
  pub manifest_left : (p : ℕ) → p ≡ min (r + 1) (length line) → drop p line ≡ manifest_part line
  unfolding manifest_part
  manifest_left p q = drop_least (r + 1) p line q ∙ ap (λ (k : ℕ). drop k line) (add-one r ∙ ap suc found) ∙ sym (after_drop 0x20 line)
