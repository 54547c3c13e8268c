-- Laws of `any_of` and `any_pair`. Assumes nothing.
use mathlib.Core.Path.{◌≡◌, refl, sym, ap, ◌∙◌}
use mathlib.Core.List.{List, [], ◌∷◌, ◌++◌, map, Memᴰ as In}
use mathlib.Core.List.{Permᴰ as Permutation}
use mathlib.Core.Bool.{Bool, true, false, ◌&&◌, ◌||◌, or-true, or_assoc}
use Rattle.laws.specs.Any.{any_of}
use Rattle.laws.proofs.Order.{by_test, false_true}

-- Where a disjunction is false, both of its parts are.
pub or_none : (a b : Bool) → (a || b) ≡ false → (a ≡ false) × (b ≡ false)
or_none true b e = false_true (sym e)
or_none false b e = (refl, e)

module _ {A : Type 0} (p : A → Bool) where
  -- Some element of two lists passes, if one of the first does or one of the second.
  pub any_both : (xs ys : List A) → any_of p (xs ++ ys) ≡ (any_of p xs || any_of p ys)
  unfolding any_of
  any_both [] ys = refl
  any_both (x ∷ xs) ys = ap (λ (b : Bool). p x || b) (any_both xs ys) ∙ sym (or_assoc (p x) (any_of p xs) (any_of p ys))

  module _ (xs ys : List A) where
    -- If an element of the first list passes, one of both lists joined does.
    pub any_first : any_of p xs ≡ true → any_of p (xs ++ ys) ≡ true
    any_first e = any_both xs ys ∙ rw e

    -- If no element of the first list passes, one of both lists joined does exactly if one of the second does.
    pub any_second : any_of p xs ≡ false → any_of p (xs ++ ys) ≡ any_of p ys
    any_second e = any_both xs ys ∙ rw e

module _ {A : Type 0} (p : A → Bool) where
  -- Where no element passes a test, an element does not.
  pub none_passes : {a : A} {xs : List A} → any_of p xs ≡ false → In a xs → p a ≡ false
  unfolding any_of
  none_passes e (In.head {x = x} {xs = xs} q) = ap p q ∙ (or_none (p x) (any_of p xs) e).0
  none_passes e (In.tail {x = x} {xs = xs} m) = none_passes (or_none (p x) (any_of p xs) e).1 m

  -- Where each element does not pass a test, none does.
  pub passed_by_none : (xs : List A) → ((a : A) → In a xs → p a ≡ false) → any_of p xs ≡ false
  unfolding any_of
  passed_by_none [] h = refl
  passed_by_none (x ∷ xs) h = λ i. h x (In.head refl) i || passed_by_none xs (λ a m. h a (In.tail m)) i

-- A test of what a list is mapped to is a test of the list.
pub any_map : {A B : Type 0} (f : A → B) (p : B → Bool) (xs : List A) → any_of p (map f xs) ≡ any_of (λ (x : A). p (f x)) xs
unfolding any_of
any_map f p [] = refl
any_map f p (x ∷ xs) = ap (λ (b : Bool). p (f x) || b) (any_map f p xs)

-- Tests that agree on every element agree on the list.
pub any_pointwise : {A : Type 0} (p q : A → Bool) → ((x : A) → p x ≡ q x) → (xs : List A) → any_of p xs ≡ any_of q xs
unfolding any_of
any_pointwise p q e [] = refl
any_pointwise p q e (x ∷ xs) = λ i. e x i || any_pointwise p q e xs i

-- The first two of three tests may be asked in either order.
pub or_exchanged : (a b c : Bool) → (a || (b || c)) ≡ (b || (a || c))
or_exchanged true true c = refl
or_exchanged true false c = refl
or_exchanged false b c = refl

-- The second and the third of four tests may change places.
pub or_crossed : (a b c d : Bool) → ((a || b) || (c || d)) ≡ ((a || c) || (b || d))
or_crossed a b c d = or_assoc a b (c || d) ∙ ap (λ (r : Bool). a || r) (or_exchanged b c d) ∙ sym (or_assoc a c (b || d))

module _ {A : Type 0} where
  -- No element passes a test that nothing passes.
  pub any_never : (xs : List A) → any_of (λ (x : A). false) xs ≡ false
  unfolding any_of
  any_never [] = refl
  any_never (x ∷ xs) = any_never xs

  -- What does not depend on the element is asked once.
  pub any_and : (b : Bool) (p : A → Bool) (xs : List A) → any_of (λ (x : A). b && p x) xs ≡ (b && any_of p xs)
  any_and true p xs = refl
  any_and false p xs = any_never xs

  -- Two tests are asked one after the other.
  pub any_or : (p q : A → Bool) (xs : List A) → any_of (λ (x : A). p x || q x) xs ≡ (any_of p xs || any_of q xs)
  unfolding any_of
  any_or p q [] = refl
  any_or p q (x ∷ xs) = ap (λ (b : Bool). (p x || q x) || b) (any_or p q xs) ∙ or_crossed (p x) (q x) (any_of p xs) (any_of q xs)

  -- A test that an element of the list passes is passed by some element.
  pub in_any : (p : A → Bool) {a : A} {xs : List A} → In a xs → p a ≡ true → any_of p xs ≡ true
  unfolding any_of
  in_any p (In.head {x = x} {xs = xs} e) h = ap (λ (b : Bool). b || any_of p xs) (ap p (sym e) ∙ h)
  in_any p (In.tail {x = x} m) h = ap (λ (b : Bool). p x || b) (in_any p m h) ∙ or-true (p x)

  -- A test that some element passes is passed by an element of the list.
  pub any_in : (p : A → Bool) (xs : List A) → any_of p xs ≡ true → (a : A) × In a xs × (p a ≡ true)
  unfolding any_of
  any_in p [] e = false_true e
  any_in p (x ∷ xs) e = by_test (p x) (λ f. (x, In.head refl, f)) (λ f. further (any_in p xs (rw (f, any_of) at e)))
    where
      further : (a : A) × In a xs × (p a ≡ true) → (a : A) × In a (x ∷ xs) × (p a ≡ true)
      further w = (w.0, In.tail w.1, w.2)

  -- A list in another order has an element that passes exactly if the list has.
  pub any_permuted : (p : A → Bool) {xs ys : List A} → Permutation xs ys → any_of p xs ≡ any_of p ys
  unfolding any_of
  any_permuted p Permutation.nil = refl
  any_permuted p (Permutation.cons e q) = λ i. p (e i) || any_permuted p q i
  any_permuted p (Permutation.swap {a = a} {b = b} {l = l} e f) = or_exchanged (p a) (p b) (any_of p l) ∙ (λ i. p (f i) || (p (e i) || any_of p l))
  any_permuted p (Permutation.trans q r) = any_permuted p q ∙ any_permuted p r

-- Which of two lists is gone through first makes no difference.
pub any_swapped :
    {A B : Type 0} (p : A → B → Bool) (xs : List A) (ys : List B)
    → any_of (λ (x : A). any_of (p x) ys) xs ≡ any_of (λ (y : B). any_of (λ (x : A). p x y) xs) ys
unfolding any_of
any_swapped p [] ys = sym (any_never ys)
any_swapped {A} {B} p (x ∷ xs) ys =
    ap (λ (b : Bool). any_of (p x) ys || b) (any_swapped p xs ys) ∙ sym (any_or (p x) (λ (y : B). any_of (λ (z : A). p z y) xs) ys)
