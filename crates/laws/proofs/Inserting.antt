-- Sorting changes nothing but the order; where an element is inserted, and what holds of all elements then. Assumes nothing.
use Prim.Native.Nat.{ℕ, zero, suc, ◌<◌, ◌≤◌}
use mathlib.Core.Path.{◌≡◌, refl, sym, ap, ◌∙◌}
use mathlib.Core.List.Permᴰ
use mathlib.Core.List.{List, [], ◌∷◌, ◌++◌, Permᴰ as Permutation}
use mathlib.Core.Bool.{Bool, true, false}
use native.Mathlib.Omega.{arith}
use lib.ListN.{length, get_or, take, drop}
use Rattle.laws.specs.Any.{any_of}
use Rattle.laws.specs.Sort.{insert, sort}
use Rattle.laws.proofs.Any.{any_permuted}
use Rattle.laws.proofs.Order.{by_test}
use Rattle.laws.proofs.Permutations.{length_permuted}
use Rattle.laws.proofs.Sort.{insert_before, insert_after}

module _ {A : Type 0} (le : A → A → Bool) where
  insert_permuted : (x : A) (ys : List A) → Permutation (x ∷ ys) (insert le x ys)
  unfolding insert
  insert_permuted x [] = Permᴰ.refl (x ∷ [])
  insert_permuted x (y ∷ ys) = go (insert_permuted x ys)
    where
      go : Permutation (x ∷ ys) (insert le x ys) → Permutation (x ∷ y ∷ ys) (insert le x (y ∷ ys))
      go ih =
          by_test (le x y)
          (λ e. rw (insert_before le x y ys e) (Permᴰ.refl (x ∷ y ∷ ys)))
          (λ e. rw (insert_after le x y ys e) (Permutation.trans (Permutation.swap refl refl) (Permutation.cons refl ih)))

  -- A sorted list has the elements of the list, in another order.
  pub sort_permuted : (xs : List A) → Permutation xs (sort le xs)
  unfolding sort
  sort_permuted [] = Permᴰ.refl []
  sort_permuted (x ∷ xs) = Permutation.trans (Permutation.cons refl (sort_permuted xs)) (insert_permuted x (sort le xs))

  -- A sorted list is as long as the list.
  pub sort_length : (xs : List A) → length (sort le xs) ≡ length xs
  sort_length xs = sym (length_permuted (sort_permuted xs))

  -- A sorted list has an element that passes exactly if the list has.
  pub any_sorted : (p : A → Bool) (xs : List A) → any_of p (sort le xs) ≡ any_of p xs
  any_sorted p xs = sym (any_permuted p (sort_permuted xs))

module _ {A : Type 0} (le : A → A → Bool) (d x : A) where
  -- An element that comes after the first k of a list and not after the others is inserted at place k.
  pub insert_at : (xs : List A) (k : ℕ) → k ≤ length xs → ((i : ℕ) → i < k → le x (get_or xs i d) ≡ false)
      → ((i : ℕ) → k ≤ i → i < length xs → le x (get_or xs i d) ≡ true) → insert le x xs ≡ take k xs ++ x ∷ drop k xs
  unfolding insert
  insert_at [] zero h f g = refl
  insert_at [] (suc k) h f g = absurd (omega arith)
  insert_at (y ∷ ys) zero h f g = insert_before le x y ys (g 0 (omega arith) (omega arith))
  insert_at (y ∷ ys) (suc k) h f g =
      insert_after le x y ys (f 0 (omega arith))
      ∙ ap (λ (l : List A). y ∷ l) (insert_at ys k (omega arith) (λ i l. f (suc i) (omega arith)) (λ i l m. g (suc i) (omega arith) (omega arith)))

  -- What holds of an element and of all those of a list holds of all when it is inserted.
  pub insert_each : (P : A → Type 0) → P x → (xs : List A) → ((i : ℕ) → i < length xs → P (get_or xs i d))
      → (i : ℕ) → i < length (insert le x xs) → P (get_or (insert le x xs) i d)
  unfolding insert
  insert_each P p [] f zero h = p
  insert_each P p [] f (suc i) h = absurd (omega arith)
  insert_each P p (y ∷ ys) f j k = go (insert_each P p ys (λ i h. f (suc i) (omega arith))) j k
    where
      first : (i : ℕ) → i < length (x ∷ y ∷ ys) → P (get_or (x ∷ y ∷ ys) i d)
      first zero h = p
      first (suc i) h = f i (omega arith)

      later : ((i : ℕ) → i < length (insert le x ys) → P (get_or (insert le x ys) i d))
          → (i : ℕ) → i < length (y ∷ insert le x ys) → P (get_or (y ∷ insert le x ys) i d)
      later ih zero h = f 0 (omega arith)
      later ih (suc i) h = ih i (omega arith)

      go : ((i : ℕ) → i < length (insert le x ys) → P (get_or (insert le x ys) i d))
          → (i : ℕ) → i < length (insert le x (y ∷ ys)) → P (get_or (insert le x (y ∷ ys)) i d)
      go ih = by_test (le x y) (λ e. rw (insert_before le x y ys e) first) (λ e. rw (insert_after le x y ys e) (later ih))
