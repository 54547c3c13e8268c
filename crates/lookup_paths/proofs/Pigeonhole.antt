-- The pigeonhole principle: where each of n numbers belongs to an element of a list, and no element has two of them, the list has n elements or more.
-- Assumes nothing.
use Prim.Native.Nat.{ℕ, zero, suc, ◌≤◌, ◌<◌}
use mathlib.Core.Path.{◌≡◌, refl, sym, subst, ◌∙◌}
use mathlib.Core.Logic.{◌⊎◌, inl, inr, ⊎_elim}
use mathlib.Core.List.{List, ◌∷◌, Memᴰ as In}
use native.Mathlib.Omega.{arith}
use lib.ListN.{length}

module _ {A : Type 0} where
  -- a list without the element at one place: every other element is left
  record Rest (a : A) (xs : List A) : Type 0 where
    rest : List A
    shorter : length xs ≡ suc (length rest)
    left : {b : A} → In b xs → (b ≡ a) ⊎ In b rest

  rest_of : {a : A} {xs : List A} → In a xs → Rest a xs
  rest_of {a} (In.head {x = x} {xs = xs} e) = record { rest = xs; shorter = refl; left = left }
    where
      left : {b : A} → In b (x ∷ xs) → (b ≡ a) ⊎ In b xs
      left (In.head f) = inl (f ∙ sym e)
      left (In.tail k) = inr k
  rest_of {a} (In.tail {x = x} {xs = xs} m) = longer (rest_of m)
    where
      longer : Rest a xs → Rest a (x ∷ xs)
      longer r = record { rest = x ∷ r.rest; shorter = let l = r.shorter in omega arith; left = left }
        where
          left : {b : A} → In b (x ∷ xs) → (b ≡ a) ⊎ In b (x ∷ r.rest)
          left (In.head f) = inr (In.head f)
          left (In.tail k) = ⊎_elim (λ e. inl e) (λ j. inr (In.tail j)) (r.left k)

  module _ (Has : A → ℕ → Type 0) (one : (a : A) (i j : ℕ) → Has a i → Has a j → i ≡ j) where
    -- A list has at least n elements if each number below n belongs to one of them, and no element has two numbers.
    pub many_elements : (n : ℕ) (xs : List A) → ((k : ℕ) → k < n → (a : A) × In a xs × Has a k) → n ≤ length xs
    many_elements zero xs h = omega arith
    many_elements (suc n) xs h = go (many_elements n) (h n (omega arith))
      where
        others : (a : A) → Has a n → (r : Rest a xs) → (k : ℕ) → k < n → (b : A) × In b r.rest × Has b k
        others a p r k l =
            let w = h k (omega arith) in
            ⊎_elim
            (λ (e : w.0 ≡ a). let f = one a k n (subst (λ (b : A). Has b k) e w.2) p in absurd (omega arith))
            (λ (m : In w.0 r.rest). (w.0, m, w.2))
            (r.left w.1)

        go :
            ((ys : List A) → ((k : ℕ) → k < n → (a : A) × In a ys × Has a k) → n ≤ length ys) → (a : A) × In a xs × Has a n
            → suc n ≤ length xs
        go fewer w =
            let r = rest_of w.1 in
            let l = fewer r.rest (others w.0 w.2 r) in
            let s = r.shorter in omega arith
