-- Sorting a list by an order that is given as a test. Of two elements that the order puts at one place, the one that came first stays first.
use Rattle.std.specs.Prelude.{◌≡◌, List, [], ◌∷◌, Bool, true, false}

module _ {A : Type 0} (le : A → A → Bool) where
  unfoldable pub insert : A → List A → List A
  insert x [] = x ∷ []
  insert x (y ∷ ys) = elim (le x y) [ true ↦ x ∷ y ∷ ys | false ↦ y ∷ insert x ys ]

  unfoldable pub sort : List A → List A
  sort [] = []
  sort (x ∷ xs) = insert x (sort xs)

  -- the elements of x ∷ xs and of the second list, where f merges xs with a list
  unfoldable pub merge_into : A → (List A → List A) → List A → List A
  merge_into x f [] = x ∷ f []
  merge_into x f (y ∷ ys) = elim (le x y) [ true ↦ x ∷ f (y ∷ ys) | false ↦ y ∷ merge_into x f ys ]

  -- two lists into one: the smaller first element goes first, the first list's where the order puts both at one place
  unfoldable pub merge : List A → List A → List A
  merge [] ys = ys
  merge (x ∷ xs) ys = merge_into x (merge xs) ys

  -- the order compares any two elements, and is transitive
  pub record Orders : Type 0 where
    pub total : (x y : A) → le x y ≡ false → le y x ≡ true
    pub trans : (x y z : A) → le x y ≡ true → le y z ≡ true → le x z ≡ true
