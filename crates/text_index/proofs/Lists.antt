-- Laws of the elements that pass a test. Assumes nothing.
use Prim.Native.Nat.{ℕ, zero, suc, ◌-◌, ◌<◌, ◌≤◌}
use mathlib.Core.Path.{◌≡◌, refl, sym, ap, ◌∙◌}
use mathlib.Core.List.{List, [], ◌∷◌}
use mathlib.Core.Bool.{Bool, true, false, ◌&&◌, ◌||◌}
use native.Mathlib.Omega.{arith}
use lib.ListN.{length, get_or, take, drop}
use Rattle.laws.specs.Any.{any_of}
use Rattle.laws.proofs.Order.{by_test}
use Rattle.text_index.specs.Index.{filter}

module _ {A : Type 0} (q : A → Bool) where
  filter_taken : (x : A) (xs : List A) → q x ≡ true → filter q (x ∷ xs) ≡ x ∷ filter q xs
  unfolding filter
  filter_taken x xs e = rw (e, filter)

  filter_left : (x : A) (xs : List A) → q x ≡ false → filter q (x ∷ xs) ≡ filter q xs
  unfolding filter
  filter_left x xs e = rw (e, filter)

  -- Some element of those that pass a test passes another, if some element of all passes both.
  pub filter_any : (p : A → Bool) (xs : List A) → any_of p (filter q xs) ≡ any_of (λ (x : A). q x && p x) xs
  unfolding filter any_of
  filter_any p [] = refl
  filter_any p (x ∷ xs) = go (filter_any p xs)
    where
      both : A → Bool
      both y = q y && p y

      go : any_of p (filter q xs) ≡ any_of both xs → any_of p (filter q (x ∷ xs)) ≡ ((q x && p x) || any_of both xs)
      go ih =
          by_test (q x)
          (λ e. ap (any_of p) (filter_taken x xs e) ∙ ap (λ (b : Bool). p x || b) ih ∙ sym (ap (λ (b : Bool). (b && p x) || any_of both xs) e))
          (λ e. ap (any_of p) (filter_left x xs e) ∙ ih ∙ sym (ap (λ (b : Bool). (b && p x) || any_of both xs) e))

-- no element passes
filter_none : (p : ℕ → Bool) (xs : List ℕ) → ((i : ℕ) → i < length xs → p (get_or xs i 0) ≡ false) → filter p xs ≡ []
unfolding filter
filter_none p [] f = refl
filter_none p (x ∷ xs) f = filter_left p x xs (f 0 (omega arith)) ∙ filter_none p xs (λ i h. f (suc i) (omega arith))

-- the first n elements pass, and no others
filter_front : (p : ℕ → Bool) (xs : List ℕ) (n : ℕ) → n ≤ length xs → ((i : ℕ) → i < n → p (get_or xs i 0) ≡ true)
    → ((i : ℕ) → n ≤ i → i < length xs → p (get_or xs i 0) ≡ false) → take n xs ≡ filter p xs
unfolding filter
filter_front p xs zero h f g = sym (filter_none p xs (λ i l. g i (omega arith) l))
filter_front p [] (suc n) h f g = absurd (omega arith)
filter_front p (x ∷ xs) (suc n) h f g =
    ap (λ (l : List ℕ). x ∷ l) (filter_front p xs n (omega arith) (λ i l. f (suc i) (omega arith)) (λ i l m. g (suc i) (omega arith) (omega arith)))
    ∙ sym (filter_taken p x xs (f 0 (omega arith)))

-- Where the elements from one place up to another pass and no others, they are what passes.
pub filter_part : (p : ℕ → Bool) (xs : List ℕ) (from to : ℕ) → from ≤ to → to ≤ length xs → ((i : ℕ) → i < from → p (get_or xs i 0) ≡ false)
    → ((i : ℕ) → from ≤ i → i < to → p (get_or xs i 0) ≡ true) → ((i : ℕ) → to ≤ i → i < length xs → p (get_or xs i 0) ≡ false)
    → take (to - from) (drop from xs) ≡ filter p xs
unfolding filter
filter_part p xs zero to l h f g k =
    let e : to - 0 ≡ to = omega arith in
    ap (λ (n : ℕ). take n xs) e ∙ filter_front p xs to h (λ i m. g i (omega arith) m) k
filter_part p [] (suc from) to l h f g k = absurd (omega arith)
filter_part p (x ∷ xs) (suc from) zero l h f g k = absurd (omega arith)
filter_part p (x ∷ xs) (suc from) (suc to) l h f g k =
    let e : suc to - suc from ≡ to - from = omega arith in
    ap (λ (n : ℕ). take n (drop from xs)) e
    ∙ filter_part p xs from to (omega arith) (omega arith) (λ i m. f (suc i) (omega arith)) (λ i m n. g (suc i) (omega arith) (omega arith))
    (λ i m n. k (suc i) (omega arith) (omega arith))
    ∙ sym (filter_left p x xs (f 0 (omega arith)))
