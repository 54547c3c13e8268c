-- Laws of tests of two elements of a list, of whatever list. Assumes nothing.
use Prim.Native.Nat.{ℕ, suc, ◌+◌, ◌-◌, ◌≤◌, ◌<◌}
use mathlib.Core.Path.{◌≡◌, refl, sym, ap, ap₂, ◌∙◌}
use mathlib.Core.Bool.{Bool, true, false, ◌||◌, or-false, or_assoc}
use mathlib.Core.List.{List, [], ◌∷◌, ◌++◌, map, Memᴰ as In, Permᴰ as Permutation}
use native.Mathlib.Omega.{arith}
use native.Mathlib.Numerals.{add-one}
use lib.ListN.{length, take, drop, get_or, take-append-drop}
use lib.Seq.{take-suc, drop-cons}
use Rattle.laws.specs.Any.{any_of, any_pair}
use Rattle.laws.proofs.Any.{any_both, any_map, any_or, any_never, any_permuted, any_pointwise, or_crossed}
use Rattle.laws.proofs.Permutations.{same_elements}

-- Some element of the first j + 1 passes, if one of the first j does or the next.
pub any_last : {B : Type 0} (p : B → Bool) (ys : List B) (j : ℕ) (d : B) → j < length ys → any_of p (take (j + 1) ys) ≡ (any_of p (take j ys) || p (get_or ys j d))
unfolding any_of
any_last p ys j d h =
    ap (λ (n : ℕ). any_of p (take n ys)) (add-one j) ∙ ap (any_of p) (take-suc ys j d h) ∙ any_both p (take j ys) (get_or ys j d ∷ [])
    ∙ ap (λ (b : Bool). any_of p (take j ys) || b) (or-false (p (get_or ys j d)))

-- Tests that agree at every place agree on the list.
pub any_places : (p q : ℕ → Bool) (xs : List ℕ) → ((i : ℕ) → i < length xs → p (get_or xs i 0) ≡ q (get_or xs i 0)) → any_of p xs ≡ any_of q xs
unfolding any_of
any_places p q [] f = refl
any_places p q (x ∷ xs) f = let ih = any_places p q xs (λ i h. f (suc i) (omega arith)) in λ i. f 0 (omega arith) i || ih i

-- Where no place passes, no element does.
pub none_places : (p : ℕ → Bool) (xs : List ℕ) → ((i : ℕ) → i < length xs → p (get_or xs i 0) ≡ false) → any_of p xs ≡ false
none_places p xs f = any_places p (λ (x : ℕ). false) xs f ∙ any_never xs

-- Some element from place k up to place m passes, if the one there does or one after it.
pub any_part : (p : ℕ → Bool) (xs : List ℕ) (k m : ℕ) → k < m → m ≤ length xs
    → any_of p (take (m - k) (drop k xs)) ≡ (p (get_or xs k 0) || any_of p (take (m - (k + 1)) (drop (k + 1) xs)))
unfolding any_of
any_part p xs k m l h =
    let e : m - k ≡ suc (m - (k + 1)) = omega arith in
    ap (any_of p) (ap₂ (λ (n : ℕ) (q : List ℕ). take n q) e (drop-cons xs k 0 (omega arith) ∙ ap (λ (n : ℕ). get_or xs k 0 ∷ drop n xs) (sym (add-one k))))

-- From a place on up to itself there is none.
pub any_part_end : (p : ℕ → Bool) (xs : List ℕ) (k m : ℕ) → m ≤ k → any_of p (take (m - k) (drop k xs)) ≡ false
unfolding any_of
any_part_end p xs k m h = let e : m - k ≡ 0 = omega arith in ap (λ (n : ℕ). any_of p (take n (drop k xs))) e

module _ {A : Type 0} (p : A → A → Bool) where
  -- Some two elements of two lists pass, if two of the first do, one of each, or two of the second.
  pub pair_both : (xs ys : List A) → any_pair p (xs ++ ys) ≡ ((any_pair p xs || any_of (λ (x : A). any_of (p x) ys) xs) || any_pair p ys)
  unfolding any_pair any_of
  pair_both [] ys = refl
  pair_both (x ∷ xs) ys =
      (λ i. any_both (p x) xs ys i || pair_both xs ys i)
      ∙ sym (or_assoc (any_of (p x) xs || any_of (p x) ys) (any_pair p xs || any_of (λ (z : A). any_of (p z) ys) xs) (any_pair p ys))
      ∙ ap (λ (b : Bool). b || any_pair p ys) (or_crossed (any_of (p x) xs) (any_of (p x) ys) (any_pair p xs) (any_of (λ (z : A). any_of (p z) ys) xs))

  -- Some two of the first n + 1 elements pass, if two of the first n do, or one of these with the next.
  pub pair_last : (xs : List A) (n : ℕ) (d : A) → n < length xs
      → any_pair p (take (n + 1) xs) ≡ (any_pair p (take n xs) || any_of (λ (x : A). p x (get_or xs n d)) (take n xs))
  unfolding any_pair any_of
  pair_last xs n d h =
      ap (λ (m : ℕ). any_pair p (take m xs)) (add-one n) ∙ ap (any_pair p) (take-suc xs n d h) ∙ pair_both (take n xs) (get_or xs n d ∷ [])
      ∙ or-false _
      ∙ ap (λ (b : Bool). any_pair p (take n xs) || b) (any_pointwise _ _ (λ x. or-false (p x (get_or xs n d))) (take n xs))

  -- Where two of the first elements pass, two elements do.
  pub pair_part : (xs : List A) (n : ℕ) → any_pair p (take n xs) ≡ true → any_pair p xs ≡ true
  pair_part xs n e =
      ap (any_pair p) (sym (take-append-drop n xs)) ∙ pair_both (take n xs) (drop n xs)
      ∙ ap (λ (b : Bool). (b || any_of (λ (x : A). any_of (p x) (drop n xs)) (take n xs)) || any_pair p (drop n xs)) e

  -- Two tests are asked one after the other.
  pub pair_or : (q : A → A → Bool) (xs : List A) → any_pair (λ (x y : A). p x y || q x y) xs ≡ (any_pair p xs || any_pair q xs)
  unfolding any_pair
  pair_or q [] = refl
  pair_or q (x ∷ xs) =
      (λ i. any_or (p x) (q x) xs i || pair_or q xs i) ∙ or_crossed (any_of (p x) xs) (any_of (q x) xs) (any_pair p xs) (any_pair q xs)

  -- A list in another order has two elements that pass a test exactly if the list has, where the test of two of its elements goes both ways.
  pub pair_permuted : {xs ys : List A} → ((x y : A) → In x xs → In y xs → p x y ≡ p y x) → Permutation xs ys → any_pair p xs ≡ any_pair p ys
  unfolding any_pair any_of
  pair_permuted s Permutation.nil = refl
  pair_permuted s (Permutation.cons e q) =
      let r = pair_permuted (λ x y m n. s x y (In.tail m) (In.tail n)) q in (λ i. any_permuted (p (e i)) q i || r i)
  pair_permuted s (Permutation.swap {a = a} {b = b} {l = l} e f) =
      ap (λ (t : Bool). (t || any_of (p a) l) || (any_of (p b) l || any_pair p l)) (s a b (In.head refl) (In.tail (In.head refl)))
      ∙ or_crossed (p b a) (any_of (p a) l) (any_of (p b) l) (any_pair p l)
      ∙ (λ i. (p (f i) (e i) || any_of (p (f i)) l) || (any_of (p (e i)) l || any_pair p l))
  pair_permuted s (Permutation.trans q r) =
      pair_permuted s q ∙ pair_permuted (λ x y m n. s x y ((same_elements x q).1 m) ((same_elements y q).1 n)) r

-- A test of two of the elements that a list is mapped to is a test of two elements of the list.
pub pair_map : {A B : Type 0} (f : A → B) (p : B → B → Bool) (q : A → A → Bool) → ((x y : A) → p (f x) (f y) ≡ q x y) → (xs : List A)
    → any_pair p (map f xs) ≡ any_pair q xs
unfolding any_pair
pair_map f p q e [] = refl
pair_map f p q e (x ∷ xs) = λ i. (any_map f (p (f x)) xs ∙ any_pointwise _ _ (e x) xs) i || pair_map f p q e xs i
