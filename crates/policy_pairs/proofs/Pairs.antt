-- Which pairs are listed, in which order, and how many at most.
use Prim.Native.Nat.{ℕ, zero, suc, ◌+◌, ◌-◌, ◌*◌, ◌≤◌, ◌<◌}
use mathlib.Core.Path.{◌≡◌, refl, sym, ap, subst, ◌∙◌}
use mathlib.Core.Logic.{inl, inr, ⊎_elim, ◌↔◌}
use mathlib.Core.List.Memᴰ
use mathlib.Core.List.{List, [], ◌∷◌, ◌++◌, Memᴰ}
use mathlib.Core.Bool.{Bool, true, false, and-false}
use native.Mathlib.Omega.{arith}
use native.Mathlib.Nat.{le_trans, mul-le-mul, suc-mul}
use lib.Dec.{eqb}
use lib.ListN.{length, get_or, length-append}
use borrow.Author.Tests.{eqb-true, eqb-false, eq-eqb}
use Rattle.laws.proofs.Order.{by_test}
use Rattle.policy_marks.specs.Pairs.{Pair, pairs_with, pairs_from, pairs_where, pairs_in, is_reported, Before, Ordered, empty, single, more}
use Rattle.policy_pairs.proofs.Listing.{pair, with_taken, with_left, with_few}

-- what a pair of pairs_with is
record Within (p : ℕ → ℕ → Bool) (g o m : ℕ) (q : Pair) : Type 0 where
  guard : q.guard ≡ g
  from : o ≤ q.other
  below : q.other < o + m
  passes : p g q.other ≡ true

module _ (p : ℕ → ℕ → Bool) (g : ℕ) where
  within : (o m : ℕ) {q : Pair} → Memᴰ q (pairs_with p g o m) → Within p g o m q
  unfolding pairs_with
  within o zero i = absurd (Memᴰ.not-nil i)
  within o (suc m) {q} i = by_test (p g o) (here (within (suc o) m)) (past (within (suc o) m))
    where
      wider : Within p g (suc o) m q → Within p g o (suc m) q
      wider w = record { guard = w.guard; from = omega arith; below = omega arith; passes = w.passes }

      first : p g o ≡ true → q ≡ pair g o → Within p g o (suc m) q
      first e f =
          record {
            guard = ap (λ (r : Pair). r.guard) f;
            from = omega (arith, ap (λ (r : Pair). r.other) f);
            below = omega (arith, ap (λ (r : Pair). r.other) f);
            passes = ap (λ (r : Pair). p g r.other) f ∙ e;
          }

      here : (Memᴰ q (pairs_with p g (suc o) m) → Within p g (suc o) m q) → p g o ≡ true → Within p g o (suc m) q
      here ih e = ⊎_elim (first e) (λ j. wider (ih j)) (Memᴰ.cases_cons (subst (Memᴰ q) (with_taken p g o m e) i))

      past : (Memᴰ q (pairs_with p g (suc o) m) → Within p g (suc o) m q) → p g o ≡ false → Within p g o (suc m) q
      past ih e = wider (ih (subst (Memᴰ q) (with_left p g o m e) i))

  listed_with : (o m x : ℕ) → o ≤ x → x < o + m → p g x ≡ true → Memᴰ (pair g x) (pairs_with p g o m)
  unfolding pairs_with
  listed_with o zero x h k e = absurd (omega arith)
  listed_with o (suc m) x h k e = by_test (eqb o x) (λ q. here (eqb-true o x q)) (λ q. past (eqb-false o x q) (listed_with (suc o) m x))
    where
      Here : List Pair → Type 0
      Here = Memᴰ (pair g x)

      here : o ≡ x → Here (pairs_with p g o (suc m))
      here q = subst Here (sym (with_taken p g o m (ap (p g) q ∙ e))) (Memᴰ.head (ap (pair g) (sym q)))

      past : (o ≡ x → ⊥) → (suc o ≤ x → x < suc o + m → p g x ≡ true → Here (pairs_with p g (suc o) m)) → Here (pairs_with p g o (suc m))
      past n ih =
          let i : Here (pairs_with p g (suc o) m) = ih (omega arith) (omega arith) e in
          by_test (p g o)
          (λ f. subst Here (sym (with_taken p g o m f)) (Memᴰ.tail i))
          (λ f. subst Here (sym (with_left p g o m f)) i)

  -- none of an image with itself
  with_fewer : (o m : ℕ) → o ≤ g → g < o + m → p g g ≡ false → suc (length (pairs_with p g o m)) ≤ m
  unfolding pairs_with
  with_fewer o zero h k e = absurd (omega arith)
  with_fewer o (suc m) h k e = by_test (eqb o g) (λ q. here (eqb-true o g q)) (λ q. past (eqb-false o g q) (with_fewer (suc o) m))
    where
      here : o ≡ g → suc (length (pairs_with p g o (suc m))) ≤ suc m
      here q = omega (arith, with_few p g (suc o) m, ap length (with_left p g o m (ap (p g) q ∙ e)))

      past : (o ≡ g → ⊥) → (suc o ≤ g → g < suc o + m → p g g ≡ false → suc (length (pairs_with p g (suc o) m)) ≤ m)
          → suc (length (pairs_with p g o (suc m))) ≤ suc m
      past n ih =
          let i : suc (length (pairs_with p g (suc o) m)) ≤ m = ih (omega arith) (omega arith) e in
          by_test (p g o) (λ f. omega (arith, ap length (with_taken p g o m f))) (λ f. omega (arith, ap length (with_left p g o m f)))

-- what a pair of pairs_from is
record Listed (p : ℕ → ℕ → Bool) (n g m : ℕ) (q : Pair) : Type 0 where
  from : g ≤ q.guard
  below : q.guard < g + m
  other : q.other < n
  passes : p q.guard q.other ≡ true

module _ (p : ℕ → ℕ → Bool) (n : ℕ) where
  listed : (g m : ℕ) {q : Pair} → Memᴰ q (pairs_from p n g m) → Listed p n g m q
  unfolding pairs_from
  listed g zero i = absurd (Memᴰ.not-nil i)
  listed g (suc m) {q} i = ⊎_elim (λ j. first (within p g 0 n j)) (λ j. wider (listed (suc g) m j)) (Memᴰ.append_cases (pairs_with p g 0 n) i)
    where
      wider : Listed p n (suc g) m q → Listed p n g (suc m) q
      wider l = record { from = omega arith; below = omega arith; other = l.other; passes = l.passes }

      first : Within p g 0 n q → Listed p n g (suc m) q
      first w =
          record {
            from = omega arith;
            below = omega arith;
            other = omega arith;
            passes = ap (λ (x : ℕ). p x q.other) w.guard ∙ w.passes;
          }

  listed_from : (g m x o : ℕ) → g ≤ x → x < g + m → o < n → p x o ≡ true → Memᴰ (pair x o) (pairs_from p n g m)
  unfolding pairs_from
  listed_from g zero x o h k l e = absurd (omega arith)
  listed_from g (suc m) x o h k l e = by_test (eqb g x) (λ q. here (eqb-true g x q)) (λ q. past (eqb-false g x q) (listed_from (suc g) m x o))
    where
      here : g ≡ x → Memᴰ (pair x o) (pairs_with p g 0 n ++ pairs_from p n (suc g) m)
      here q =
          Memᴰ.append_left (pairs_from p n (suc g) m)
          (subst (λ (y : ℕ). Memᴰ (pair x o) (pairs_with p y 0 n)) (sym q) (listed_with p x 0 n o (omega arith) (omega arith) e))

      past : (g ≡ x → ⊥) → (suc g ≤ x → x < suc g + m → o < n → p x o ≡ true → Memᴰ (pair x o) (pairs_from p n (suc g) m))
          → Memᴰ (pair x o) (pairs_with p g 0 n ++ pairs_from p n (suc g) m)
      past q ih = Memᴰ.append_right (pairs_with p g 0 n) (ih (omega arith) (omega arith) l e)

  -- Listed are exactly the pairs of two places that pass.
  pub pair_in : (g o : ℕ) → Memᴰ (pair g o) (pairs_where p n) ↔ ((g < n) × (o < n) × (p g o ≡ true))
  unfolding pairs_where
  pair_in g o =
      (λ i. let l = listed 0 n i in (omega arith, omega arith, l.passes), λ h. listed_from 0 n g o (omega arith) (omega arith) h.1 h.2)

-- a pair before all of a list, and a list before all of another
ordered_more : (q : Pair) (ps : List Pair) → ((r : Pair) → Memᴰ r ps → Before q r) → Ordered ps → Ordered (q ∷ ps)
ordered_more q [] h o = single
ordered_more q (r ∷ ps) h o = more (h r (Memᴰ.head refl)) o

ordered_both : (ps qs : List Pair) → ((q r : Pair) → Memᴰ q ps → Memᴰ r qs → Before q r) → Ordered ps → Ordered qs → Ordered (ps ++ qs)
ordered_both [] qs h o k = k
ordered_both (q ∷ []) qs h o k = ordered_more q qs (λ r i. h q r (Memᴰ.head refl) i) k
ordered_both (q ∷ r ∷ ps) qs h (more b o) k = more b (ordered_both (r ∷ ps) qs (λ x y i j. h x y (Memᴰ.tail i) j) o k)

module _ (p : ℕ → ℕ → Bool) where
  with_ordered : (g o m : ℕ) → Ordered (pairs_with p g o m)
  unfolding pairs_with
  with_ordered g o zero = empty
  with_ordered g o (suc m) = go (with_ordered g (suc o) m)
    where
      go : Ordered (pairs_with p g (suc o) m) → Ordered (pairs_with p g o (suc m))
      go ih =
          by_test (p g o)
          (λ e. subst Ordered (sym (with_taken p g o m e)) (ordered_more (pair g o) (pairs_with p g (suc o) m)
          (λ r i. let w = within p g (suc o) m i in inr (omega arith, omega arith)) ih))
          (λ e. subst Ordered (sym (with_left p g o m e)) ih)

  from_ordered : (n g m : ℕ) → Ordered (pairs_from p n g m)
  unfolding pairs_from
  from_ordered n g zero = empty
  from_ordered n g (suc m) =
      ordered_both (pairs_with p g 0 n) (pairs_from p n (suc g) m)
      (λ q r i j. let w = within p g 0 n i in let l = listed p n (suc g) m j in inl (omega arith))
      (with_ordered g 0 n) (from_ordered n (suc g) m)

  -- Pairs are listed by the first and then by the second, none twice.
  pub pairs_rising : (n : ℕ) → Ordered (pairs_where p n)
  unfolding pairs_where
  pairs_rising n = from_ordered n 0 n

  module _ (apart : (g : ℕ) → p g g ≡ false) where
    from_fewer : (n g m : ℕ) → g + m ≤ n → length (pairs_from p n g m) ≤ m * (n - 1)
    unfolding pairs_from
    from_fewer n g zero h = omega arith
    from_fewer n g (suc m) h =
        omega (
          arith,
          length-append (pairs_with p g 0 n) (pairs_from p n (suc g) m),
          with_fewer p g 0 n (omega arith) (omega arith) (apart g),
          from_fewer n (suc g) m (omega arith),
          suc-mul m (n - 1),
        )

    -- Where no place passes with itself, each has a pair with every other at most.
    pub pairs_few : (n : ℕ) → length (pairs_where p n) ≤ n * (n - 1)
    unfolding pairs_where
    pairs_few n = from_fewer n 0 n (omega arith)

-- An image paired with itself is not reported.
pub apart_reported : (guards : List Bool) (t : List (List Bool)) (g : ℕ) → is_reported guards t g g ≡ false
unfolding is_reported
apart_reported guards t g = rw (eq-eqb g g refl) (and-false (get_or guards g false))

-- A table of 64 images is reported in 64 times 63 pairs at most.
pub reported_few : (guards : List Bool) (t : List (List Bool)) → length guards ≤ 64 → length (pairs_in guards t) ≤ 64 * 63
unfolding pairs_in
reported_few guards t h =
    let k : length guards - 1 ≤ 63 = omega arith in
    le_trans (pairs_few (is_reported guards t) (apart_reported guards t) (length guards)) (mul-le-mul h k)
