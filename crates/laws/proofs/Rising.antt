-- Lists in which no element comes after the next one. Sorting gives such a list, and leaves one as it is.
use Prim.Native.Nat.{ℕ, zero, suc, ◌<◌, ◌≤◌}
use mathlib.Core.Path.{◌≡◌, refl, ap, ◌∙◌}
use mathlib.Core.List.{List, [], ◌∷◌}
use mathlib.Core.Bool.{Bool, true, false}
use native.Mathlib.Omega.{arith}
use lib.ListN.{length, get_or}
use Rattle.laws.specs.Sort.{insert, sort, Orders}
use Rattle.laws.proofs.Order.{by_test}
use Rattle.laws.proofs.Sort.{insert_before, insert_after}

pub data Rising {A : Type 0} (le : A → A → Bool) : List A → Type 0 where
  rising_none : Rising le []
  rising_one : {x : A} → Rising le (x ∷ [])
  rising_more : {x y : A} {ys : List A} → le x y ≡ true → Rising le (y ∷ ys) → Rising le (x ∷ y ∷ ys)

module _ {A : Type 0} (le : A → A → Bool) where
  -- a list of one element at most
  pub sort_short : (xs : List A) → length xs ≤ 1 → sort le xs ≡ xs
  unfolding sort insert
  sort_short [] h = refl
  sort_short (x ∷ []) h = refl
  sort_short (x ∷ y ∷ ys) h = absurd (omega arith)

  -- an element before a list that sorting leaves as it is
  pub sort_more : (x y : A) (ys : List A) → le x y ≡ true → sort le (y ∷ ys) ≡ y ∷ ys → sort le (x ∷ y ∷ ys) ≡ x ∷ y ∷ ys
  unfolding sort
  sort_more x y ys e h = ap (insert le x) h ∙ insert_before le x y ys e

  module _ (o : Orders le) where
    insert_rising : (x : A) {ys : List A} → Rising le ys → Rising le (insert le x ys)
    unfolding insert
    insert_rising x rising_none = rising_one
    insert_rising x (rising_one {x = y}) =
        by_test (le x y)
        (λ e. rw (insert_before le x y [] e) (rising_more e rising_one))
        (λ e. rw (insert_after le x y [] e) (rising_more (o.total x y e) rising_one))
    insert_rising x (rising_more {x = y} {y = z} {ys = zs} h r) = go (insert_rising x r)
      where
        after : le x y ≡ false → Rising le (insert le x (z ∷ zs)) → Rising le (y ∷ insert le x (z ∷ zs))
        after e ih =
            by_test (le x z)
            (λ f. rw (insert_before le x z zs f) (rising_more (o.total x y e) (rw (insert_before le x z zs f) at ih)))
            (λ f. rw (insert_after le x z zs f) (rising_more h (rw (insert_after le x z zs f) at ih)))

        go : Rising le (insert le x (z ∷ zs)) → Rising le (insert le x (y ∷ z ∷ zs))
        go ih =
            by_test (le x y)
            (λ e. rw (insert_before le x y (z ∷ zs) e) (rising_more e (rising_more h r)))
            (λ e. rw (insert_after le x y (z ∷ zs) e) (after e ih))

    -- In a list sorted by an order that is total and transitive, no element comes after the next one.
    pub sort_rising : (xs : List A) → Rising le (sort le xs)
    unfolding sort
    sort_rising [] = rising_none
    sort_rising (x ∷ xs) = insert_rising x (sort_rising xs)

    module _ (d : A) where
      first_least : {x : A} {xs : List A} → Rising le (x ∷ xs) → (j : ℕ) → j < length (x ∷ xs) → le x (get_or (x ∷ xs) j d) ≡ true
      first_least {x} r zero h = by_test (le x x) (λ e. e) (o.total x x)
      first_least rising_one (suc j) h = absurd (omega arith)
      first_least {x} (rising_more {y = y} {ys = ys} e r) (suc j) h = o.trans x y (get_or (y ∷ ys) j d) e (first_least {x = y} r j (omega arith))

      -- The element at an earlier place does not come after the one at a later place.
      pub rising_at : {xs : List A} → Rising le xs → (i j : ℕ) → i ≤ j → j < length xs → le (get_or xs i d) (get_or xs j d) ≡ true
      rising_at rising_none i j l h = absurd (omega arith)
      rising_at rising_one zero j l h = first_least rising_one j h
      rising_at rising_one (suc i) j l h = absurd (omega arith)
      rising_at (rising_more e r) zero j l h = first_least (rising_more e r) j h
      rising_at (rising_more e r) (suc i) zero l h = absurd (omega arith)
      rising_at (rising_more e r) (suc i) (suc j) l h = rising_at r i j (omega arith) (omega arith)
