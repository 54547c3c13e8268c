-- `leq` is a total order on lists of bytes, and `same` says when two lists are equal.
use Prim.Native.Nat.{ℕ, ◌<◌, ◌≤◌}
use mathlib.Core.Path.{◌≡◌, refl, sym, ap, ◌∙◌}
use mathlib.Core.List.{List, [], ◌∷◌}
use mathlib.Core.Bool.{Bool, true, false}
use native.Mathlib.Decide.{dec_lt}
use native.Mathlib.Omega.{arith}
use lib.Dec.{ltb, eqb}
use lib.ListN.{length}
use borrow.Author.Tests.{ltb-true, ltb-false, eqb-true, eqb-false, lt-ltb, le-ltb, eq-eqb, ne_eqb}
use Rattle.laws.specs.Order.{leq, same}

-- a test has one of two answers, and the equation stays at hand
pub by_test : {C : Type 0} (t : Bool) → (t ≡ true → C) → (t ≡ false → C) → C
by_test true f g = f refl
by_test false f g = g refl

-- What holds where `m` is below `n`, and also where it is not, holds.
pub below : {A : Type 0} (m n : ℕ) → (m < n → A) → (n ≤ m → A) → A
below m n f g = elim (dec_lt m n) [ yes h ↦ f h | no h ↦ g (omega arith) ]

-- From `false` equal to `true` anything follows.
pub false_true : {C : Type 0} → ◌≡◌ {A = Bool} false true → C
false_true e = let z : ◌≡◌ {A = ℕ} 0 1 = cc in absurd (omega arith)

-- one step of `leq`
pub leq_less : (x y : ℕ) (xs ys : List ℕ) → x < y → leq (x ∷ xs) (y ∷ ys) ≡ true
unfolding leq
leq_less x y xs ys h = rw (lt-ltb x y h, leq)

-- Two lists whose first bytes are equal are in the order of their rests.
pub leq_same : (x y : ℕ) (xs ys : List ℕ) → x ≡ y → leq (x ∷ xs) (y ∷ ys) ≡ leq xs ys
unfolding leq
leq_same x y xs ys h = let l : y ≤ x = omega arith in rw (le-ltb x y l, leq) (rw (eq-eqb x y h))

-- A list whose first byte is larger than the other's is after it.
pub leq_more : (x y : ℕ) (xs ys : List ℕ) → y < x → leq (x ∷ xs) (y ∷ ys) ≡ false
unfolding leq
leq_more x y xs ys h = let l : y ≤ x = omega arith in rw (le-ltb x y l, leq) (rw (ne_eqb x y (λ e. omega arith)))

-- what the answer says of the first bytes
pub data Step (x y : ℕ) (xs ys : List ℕ) : Type 0 where
  less : x < y → Step x y xs ys
  equal : x ≡ y → Step x y xs ys
  more : y < x → Step x y xs ys

-- Of two bytes the first is less than the second, equal to it, or more.
pub step : (x y : ℕ) (xs ys : List ℕ) → Step x y xs ys
step x y xs ys = by_test (ltb x y) (λ e. less (ltb-true x y e))
    (λ e. by_test (eqb x y) (λ q. equal (eqb-true x y q)) (λ q. more (go (ltb-false x y e) (eqb-false x y q))))
  where
    go : y ≤ x → (x ≡ y → ⊥) → y < x
    go h n = omega arith

-- A list is not after itself.
pub leq_refl : (xs : List ℕ) → leq xs xs ≡ true
unfolding leq
leq_refl [] = refl
leq_refl (x ∷ xs) = leq_same x x xs xs refl ∙ leq_refl xs

-- If a list is after another, the other is not after it.
pub leq_total : (xs ys : List ℕ) → leq xs ys ≡ false → leq ys xs ≡ true
unfolding leq
leq_total [] ys e = false_true (sym e)
leq_total (x ∷ xs) [] e = refl
leq_total (x ∷ xs) (y ∷ ys) e = go (leq_total xs ys) (step x y xs ys)
  where
    go : (leq xs ys ≡ false → leq ys xs ≡ true) → Step x y xs ys → leq (y ∷ ys) (x ∷ xs) ≡ true
    go ih (less h) = false_true (sym e ∙ leq_less x y xs ys h)
    go ih (equal h) = leq_same y x ys xs (sym h) ∙ ih (sym (leq_same x y xs ys h) ∙ e)
    go ih (more h) = leq_less y x ys xs h

-- If a list is not after a second, and that is not after a third, the first is not after the third.
pub leq_trans : (xs ys zs : List ℕ) → leq xs ys ≡ true → leq ys zs ≡ true → leq xs zs ≡ true
unfolding leq
leq_trans [] ys zs p q = refl
leq_trans (x ∷ xs) [] zs p q = false_true p
leq_trans (x ∷ xs) (y ∷ ys) [] p q = false_true q
leq_trans (x ∷ xs) (y ∷ ys) (z ∷ zs) p q = go (leq_trans xs ys zs) (step x y xs ys) (step y z ys zs)
  where
    go : (leq xs ys ≡ true → leq ys zs ≡ true → leq xs zs ≡ true) → Step x y xs ys → Step y z ys zs → leq (x ∷ xs) (z ∷ zs) ≡ true
    go ih (less h) (less k) = leq_less x z xs zs (omega arith)
    go ih (less h) (equal k) = leq_less x z xs zs (omega arith)
    go ih (less h) (more k) = false_true (sym (leq_more y z ys zs k) ∙ q)
    go ih (equal h) (less k) = leq_less x z xs zs (omega arith)
    go ih (equal h) (equal k) = leq_same x z xs zs (h ∙ k) ∙ ih (sym (leq_same x y xs ys h) ∙ p) (sym (leq_same y z ys zs k) ∙ q)
    go ih (equal h) (more k) = false_true (sym (leq_more y z ys zs k) ∙ q)
    go ih (more h) k = false_true (sym (leq_more x y xs ys h) ∙ p)

-- lists that are not after each other are equal
pub leq_antisym : (xs ys : List ℕ) → leq xs ys ≡ true → leq ys xs ≡ true → xs ≡ ys
unfolding leq
leq_antisym [] [] p q = refl
leq_antisym [] (y ∷ ys) p q = false_true q
leq_antisym (x ∷ xs) [] p q = false_true p
leq_antisym (x ∷ xs) (y ∷ ys) p q = go (leq_antisym xs ys) (step x y xs ys)
  where
    go : (leq xs ys ≡ true → leq ys xs ≡ true → xs ≡ ys) → Step x y xs ys → x ∷ xs ≡ y ∷ ys
    go ih (less h) = false_true (sym (leq_more y x ys xs h) ∙ q)
    go ih (equal h) = let e : xs ≡ ys = ih (sym (leq_same x y xs ys h) ∙ p) (sym (leq_same y x ys xs (sym h)) ∙ q) in cc
    go ih (more h) = false_true (sym (leq_more x y xs ys h) ∙ p)

-- `same` is equality
pub same_refl : (xs : List ℕ) → same xs xs ≡ true
unfolding same
same_refl [] = refl
same_refl (x ∷ xs) = rw (eq-eqb x x refl, same) (same_refl xs)

-- Lists that `same` says are equal are equal.
pub same_eq : (xs ys : List ℕ) → same xs ys ≡ true → xs ≡ ys
unfolding same
same_eq [] [] e = refl
same_eq [] (y ∷ ys) e = false_true e
same_eq (x ∷ xs) [] e = false_true e
same_eq (x ∷ xs) (y ∷ ys) e = by_test (eqb x y) (yes' (same_eq xs ys)) no'
  where
    yes' : (same xs ys ≡ true → xs ≡ ys) → eqb x y ≡ true → x ∷ xs ≡ y ∷ ys
    yes' ih q = let h : x ≡ y = eqb-true x y q in let t : xs ≡ ys = ih (rw (q, same) at e) in cc

    no' : eqb x y ≡ false → x ∷ xs ≡ y ∷ ys
    no' q = false_true (rw (q, same) at e)

-- Lists that `same` says are not equal are not equal.
pub same_ne : (xs ys : List ℕ) → same xs ys ≡ false → xs ≡ ys → ⊥
same_ne xs ys e q = false_true (sym e ∙ ap (same xs) (sym q) ∙ same_refl xs)

-- Lists of two lengths differ.
pub other_length : (xs ys : List ℕ) → (length xs ≡ length ys → ⊥) → same xs ys ≡ false
other_length xs ys n = by_test (same xs ys) (λ e. absurd (n (ap length (same_eq xs ys e)))) (λ e. e)

-- Equality of two lists goes both ways.
pub same_sym : (xs ys : List ℕ) → same xs ys ≡ same ys xs
same_sym xs ys =
    by_test (same xs ys)
    (λ e. let f = same_eq xs ys e in rw f)
    (λ e. by_test (same ys xs) (λ g. absurd (same_ne xs ys e (sym (same_eq ys xs g)))) (λ g. e ∙ sym g))
