-- Two lists of bytes compared from a position on.
use Prim.Native.Nat.{ℕ, suc, ◌+◌, ◌≤◌, ◌<◌}
use mathlib.Core.Path.{◌≡◌, sym, ap, ◌∙◌}
use mathlib.Core.List.{List, ◌∷◌}
use mathlib.Core.Bool.{Bool, ◌&&◌, and-true, and_assoc}
use native.Mathlib.Numerals.{add-one}
use lib.Dec.{eqb}
use lib.ListN.{length, drop, get_or, drop_of_length-le}
use lib.Seq.{drop-cons}
use Rattle.laws.specs.Order.{same}
use Rattle.laws.proofs.Order.{by_test}

same_first : (x y : ℕ) (xs ys : List ℕ) → same (x ∷ xs) (y ∷ ys) ≡ (eqb x y && same xs ys)
unfolding same
same_first x y xs ys = by_test (eqb x y) (λ e. rw (e, same)) (λ e. rw (e, same))

module _ (a b : List ℕ) (all : Bool) (i : ℕ) where
  -- Past the end of both, what is kept is the answer.
  pub same_end : length a ≤ i → length b ≤ i → (all && same (drop i a) (drop i b)) ≡ all
  unfolding same
  same_end h l = rw (drop_of_length-le a {i = i} h, drop_of_length-le b {i = i} l) (and-true all)

  -- One more byte of both is compared.
  pub same_next : i < length a → i < length b
      → (all && same (drop i a) (drop i b)) ≡ ((all && eqb (get_or a i 0) (get_or b i 0)) && same (drop (i + 1) a) (drop (i + 1) b))
  unfolding same
  same_next h l =
      rw (add-one, drop-cons a i 0 h, drop-cons b i 0 l)
      (ap (λ (t : Bool). all && t) (same_first (get_or a i 0) (get_or b i 0) (drop (suc i) a) (drop (suc i) b))
      ∙ sym (and_assoc all (eqb (get_or a i 0) (get_or b i 0)) (same (drop (suc i) a) (drop (suc i) b))))
