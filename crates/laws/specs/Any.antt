-- Tests of the elements of a list.
use Rattle.std.specs.Prelude.{List, [], ◌∷◌, Bool, false, ◌||◌}

-- some element passes
unfoldable pub any_of : {A : Type 0} → (A → Bool) → List A → Bool
any_of p [] = false
any_of p (x ∷ xs) = p x || any_of p xs

-- some two elements, one before the other, pass
unfoldable pub any_pair : {A : Type 0} → (A → A → Bool) → List A → Bool
any_pair p [] = false
any_pair p (x ∷ xs) = any_of (p x) xs || any_pair p xs
