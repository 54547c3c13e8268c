-- Permutations of lists: the library's relation, with what is added to its laws here.
-- Assumes nothing.
use mathlib.Core.Path.{◌≡◌, refl, ◌∙◌}
use mathlib.Core.Logic.{◌↔◌}
use mathlib.Core.List.Permᴰ
use mathlib.Core.List.{List, [], ◌∷◌, ◌++◌, Memᴰ, Permᴰ as Permutation}
use native.Mathlib.Omega.{arith}
use lib.ListN.{length}

module _ {A : Type 0} where
  -- The first part of a list may stand behind the second.
  pub parts_swapped : (xs ys zs : List A) → Permutation (xs ++ (ys ++ zs)) (ys ++ (xs ++ zs))
  parts_swapped [] ys zs = Permᴰ.refl (ys ++ zs)
  parts_swapped (x ∷ xs) ys zs = Permutation.trans (Permutation.cons refl (parts_swapped xs ys zs)) (Permᴰ.symm (Permᴰ.middle x ys (xs ++ zs)))

  carried : {a : A} {xs ys : List A} → Permutation xs ys → Memᴰ a xs → Memᴰ a ys
  carried Permutation.nil m = m
  carried (Permutation.cons e p) (Memᴰ.head f) = Memᴰ.head (f ∙ e)
  carried (Permutation.cons e p) (Memᴰ.tail m) = Memᴰ.tail (carried p m)
  carried (Permutation.swap e f) (Memᴰ.head g) = Memᴰ.tail (Memᴰ.head (g ∙ e))
  carried (Permutation.swap e f) (Memᴰ.tail (Memᴰ.head g)) = Memᴰ.head (g ∙ f)
  carried (Permutation.swap e f) (Memᴰ.tail (Memᴰ.tail m)) = Memᴰ.tail (Memᴰ.tail m)
  carried (Permutation.trans p q) m = carried q (carried p m)

  -- A list in another order has as many elements.
  pub length_permuted : {xs ys : List A} → Permutation xs ys → length xs ≡ length ys
  length_permuted Permutation.nil = refl
  length_permuted (Permutation.cons e p) = let l = length_permuted p in omega arith
  length_permuted (Permutation.swap e f) = refl
  length_permuted (Permutation.trans p q) = length_permuted p ∙ length_permuted q

  -- What stands in a list stands in every permutation of it, and nothing else does.
  pub same_elements : (a : A) {xs ys : List A} → Permutation xs ys → Memᴰ a xs ↔ Memᴰ a ys
  same_elements a p = (carried p, carried (Permᴰ.symm p))
