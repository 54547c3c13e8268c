-- Laws of sorting. `sort_append` is what a merge sort rests on: the sorted halves merged are the whole sorted.
use mathlib.Core.Path.{◌≡◌, refl, sym, ap, ◌∙◌}
use mathlib.Core.List.{List, [], ◌∷◌, ◌++◌}
use mathlib.Core.Bool.{Bool, true, false}
use Rattle.laws.specs.Sort.{insert, sort, merge_into, merge, Orders}
use Rattle.laws.proofs.Order.{by_test, false_true}

module _ {A : Type 0} (le : A → A → Bool) where
  -- An element that is not after the first of a list is inserted in front of it.
  pub insert_before : (x y : A) (ys : List A) → le x y ≡ true → insert le x (y ∷ ys) ≡ x ∷ y ∷ ys
  unfolding insert
  insert_before x y ys e = rw (e, insert)

  -- An element that is after the first of a list is inserted into the rest.
  pub insert_after : (x y : A) (ys : List A) → le x y ≡ false → insert le x (y ∷ ys) ≡ y ∷ insert le x ys
  unfolding insert
  insert_after x y ys e = rw (e, insert)

  -- A list merged with the empty list stays as it is.
  pub merge_nil : (xs : List A) → merge le xs [] ≡ xs
  unfolding merge merge_into
  merge_nil [] = refl
  merge_nil (x ∷ xs) = ap (λ (l : List A). x ∷ l) (merge_nil xs)

  -- If the first list's first element is not after the second's, it comes first in the merged list.
  pub merge_left : (x y : A) (xs ys : List A) → le x y ≡ true → merge le (x ∷ xs) (y ∷ ys) ≡ x ∷ merge le xs (y ∷ ys)
  unfolding merge merge_into
  merge_left x y xs ys e = rw (e, merge_into)

  -- If it is after the second's, the second list's first element comes first in the merged list.
  pub merge_right : (x y : A) (xs ys : List A) → le x y ≡ false → merge le (x ∷ xs) (y ∷ ys) ≡ y ∷ merge le (x ∷ xs) ys
  unfolding merge merge_into
  merge_right x y xs ys e = rw (e, merge_into)

  insert_is_merge : (x : A) (ys : List A) → insert le x ys ≡ merge le (x ∷ []) ys
  unfolding insert merge merge_into
  insert_is_merge x [] = refl
  insert_is_merge x (y ∷ ys) = by_test (le x y) (λ e. rw (e, insert) (rw (e, merge_into))) (go (insert_is_merge x ys))
    where
      go : insert le x ys ≡ merge le (x ∷ []) ys → le x y ≡ false → insert le x (y ∷ ys) ≡ merge le (x ∷ []) (y ∷ ys)
      go ih e = insert_after x y ys e ∙ ap (λ (l : List A). y ∷ l) ih ∙ sym (merge_right x y [] ys e)

  module _ (o : Orders le) where
    -- x inserted into what a ∷ us and b ∷ vs merge to, given the same for each list's rest
    insert_step : (x a b : A) (us vs : List A) → insert le x (merge le us (b ∷ vs)) ≡ merge le (insert le x us) (b ∷ vs)
        → insert le x (merge le (a ∷ us) vs) ≡ merge le (insert le x (a ∷ us)) vs
        → insert le x (merge le (a ∷ us) (b ∷ vs)) ≡ merge le (insert le x (a ∷ us)) (b ∷ vs)
    insert_step x a b us vs ih jh = by_test (le a b) (λ e. by_test (le x a) (first e) (second e)) (λ e. by_test (le x a) (third e) (fourth e))
      where
        first : le a b ≡ true → le x a ≡ true → insert le x (merge le (a ∷ us) (b ∷ vs)) ≡ merge le (insert le x (a ∷ us)) (b ∷ vs)
        first e f =
            ap (insert le x) (merge_left a b us vs e) ∙ insert_before x a (merge le us (b ∷ vs)) f
            ∙ ap (λ (l : List A). x ∷ l) (sym (merge_left a b us vs e))
            ∙ sym (merge_left x b (a ∷ us) vs (o.trans x a b f e))
            ∙ ap (λ (l : List A). merge le l (b ∷ vs)) (sym (insert_before x a us f))

        second : le a b ≡ true → le x a ≡ false → insert le x (merge le (a ∷ us) (b ∷ vs)) ≡ merge le (insert le x (a ∷ us)) (b ∷ vs)
        second e f =
            ap (insert le x) (merge_left a b us vs e) ∙ insert_after x a (merge le us (b ∷ vs)) f
            ∙ ap (λ (l : List A). a ∷ l) ih
            ∙ sym (merge_left a b (insert le x us) vs e)
            ∙ ap (λ (l : List A). merge le l (b ∷ vs)) (sym (insert_after x a us f))

        third : le a b ≡ false → le x a ≡ true → insert le x (merge le (a ∷ us) (b ∷ vs)) ≡ merge le (insert le x (a ∷ us)) (b ∷ vs)
        third e f = ap (insert le x) (merge_right a b us vs e) ∙ by_test (le x b)
            (λ g. insert_before x b (merge le (a ∷ us) vs) g ∙ ap (λ (l : List A). x ∷ l) (sym (merge_right a b us vs e)) ∙ sym (merge_left x b (a ∷ us) vs g))
            (λ g. insert_after x b (merge le (a ∷ us) vs) g ∙ ap (λ (l : List A). b ∷ l) (jh ∙ ap (λ (l : List A). merge le l vs) (insert_before x a us f))
            ∙ sym (merge_right x b (a ∷ us) vs g))
            ∙ ap (λ (l : List A). merge le l (b ∷ vs)) (sym (insert_before x a us f))

        fourth : le a b ≡ false → le x a ≡ false → insert le x (merge le (a ∷ us) (b ∷ vs)) ≡ merge le (insert le x (a ∷ us)) (b ∷ vs)
        fourth e f =
            ap (insert le x) (merge_right a b us vs e)
            ∙ insert_after x b (merge le (a ∷ us) vs) (after e f)
            ∙ ap (λ (l : List A). b ∷ l) (jh ∙ ap (λ (l : List A). merge le l vs) (insert_after x a us f))
            ∙ sym (merge_right a b (insert le x us) vs e)
            ∙ ap (λ (l : List A). merge le l (b ∷ vs)) (sym (insert_after x a us f))
          where
            -- x after a, and a after b: x after b
            after : le a b ≡ false → le x a ≡ false → le x b ≡ false
            after p q = by_test (le x b) (λ g. false_true (sym p ∙ o.trans a x b (o.total x a q) g)) (λ g. g)

    -- an element inserted into the first list of a merge is inserted into the merged list
    insert_inner : (x a : A) (us : List A) → ((ys : List A) → insert le x (merge le us ys) ≡ merge le (insert le x us) ys)
        → (ys : List A) → insert le x (merge le (a ∷ us) ys) ≡ merge le (insert le x (a ∷ us)) ys
    insert_inner x a us ih [] = ap (insert le x) (merge_nil (a ∷ us)) ∙ sym (merge_nil (insert le x (a ∷ us)))
    insert_inner x a us ih (b ∷ vs) = insert_step x a b us vs (ih (b ∷ vs)) (insert_inner x a us ih vs)

    insert_merge : (x : A) (xs ys : List A) → insert le x (merge le xs ys) ≡ merge le (insert le x xs) ys
    unfolding merge insert
    insert_merge x [] ys = insert_is_merge x ys
    insert_merge x (a ∷ us) ys = insert_inner x a us (insert_merge x us) ys

    -- Two lists joined and then sorted are the two lists each sorted and then merged.
    pub sort_append : (xs ys : List A) → sort le (xs ++ ys) ≡ merge le (sort le xs) (sort le ys)
    unfolding sort merge
    sort_append [] ys = refl
    sort_append (x ∷ xs) ys = ap (insert le x) (sort_append xs ys) ∙ insert_merge x (sort le xs) (sort le ys)
