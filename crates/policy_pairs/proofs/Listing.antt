-- The pairs of a table are listed one after the other: what a loop that counts or writes them keeps.
use Prim.Native.Nat.{ℕ, zero, suc, ◌+◌, ◌-◌, ◌*◌, ◌≤◌}
use mathlib.Core.Path.{◌≡◌, refl, sym, ap, ◌∙◌}
use mathlib.Core.List.{List, [], ◌∷◌, ◌++◌, append_assoc, append-nil}
use mathlib.Core.Bool.{Bool, true, false}
use native.Mathlib.Omega.{arith}
use native.Mathlib.Nat.{zero-add, add-zero, suc-add, add-suc}
use lib.ListN.{length, length-append}
use Rattle.laws.proofs.Order.{by_test}
use Rattle.policy_marks.specs.Pairs.{Pair, pairs_with, pairs_from, report_of}

-- the pair of these two
abbrev pub pair : ℕ → ℕ → Pair
pair g o = record { guard = g; other = o }

module _ (p : ℕ → ℕ → Bool) (g : ℕ) where
  -- A place that passes is the first pair.
  pub with_taken : (o m : ℕ) → p g o ≡ true → pairs_with p g o (suc m) ≡ pair g o ∷ pairs_with p g (suc o) m
  unfolding pairs_with
  with_taken o m e = rw (e, pairs_with)

  -- A place that does not pass is passed over.
  pub with_left : (o m : ℕ) → p g o ≡ false → pairs_with p g o (suc m) ≡ pairs_with p g (suc o) m
  unfolding pairs_with
  with_left o m e = rw (e, pairs_with)

  -- Places may be gone through in two parts.
  pub with_parts : (o m k : ℕ) → pairs_with p g o (m + k) ≡ pairs_with p g o m ++ pairs_with p g (o + m) k
  unfolding pairs_with
  with_parts o zero k = rw (zero-add, add-zero)
  with_parts o (suc m) k = rw (suc-add m k, add-suc o m, ← suc-add o m) (go (with_parts (suc o) m k))
    where
      go : pairs_with p g (suc o) (m + k) ≡ pairs_with p g (suc o) m ++ pairs_with p g (suc o + m) k
          → pairs_with p g o (suc (m + k)) ≡ pairs_with p g o (suc m) ++ pairs_with p g (suc o + m) k
      go ih =
          by_test (p g o)
          (λ e. rw (with_taken o (m + k) e, with_taken o m e) (ap (λ (l : List Pair). pair g o ∷ l) ih))
          (λ e. rw (with_left o (m + k) e, with_left o m e) ih)

  -- There are no more pairs than places.
  pub with_few : (o m : ℕ) → length (pairs_with p g o m) ≤ m
  unfolding pairs_with
  with_few o zero = omega arith
  with_few o (suc m) = go (with_few (suc o) m)
    where
      go : length (pairs_with p g (suc o) m) ≤ m → length (pairs_with p g o (suc m)) ≤ suc m
      go ih = by_test (p g o) (λ e. rw (with_taken o m e) (omega arith)) (λ e. rw (with_left o m e) (omega arith))

  -- The next pair is the last so far.
  pub with_next_taken : (o : ℕ) → p g o ≡ true → pairs_with p g 0 (o + 1) ≡ pairs_with p g 0 o ++ pair g o ∷ []
  unfolding pairs_with
  with_next_taken o e = with_parts 0 o 1 ∙ rw (zero-add, with_taken o 0 e)

  -- The next place has no pair.
  pub with_next_left : (o : ℕ) → p g o ≡ false → pairs_with p g 0 (o + 1) ≡ pairs_with p g 0 o
  unfolding pairs_with
  with_next_left o e = with_parts 0 o 1 ∙ rw (zero-add, with_left o 0 e) (append-nil (pairs_with p g 0 o))

  -- More places have no fewer pairs.
  pub with_grows : (o m : ℕ) → o ≤ m → length (pairs_with p g 0 o) ≤ length (pairs_with p g 0 m)
  with_grows o m h =
      let e : o + (m - o) ≡ m = omega arith in
      omega (arith, ap length (sym (with_parts 0 o (m - o)) ∙ ap (pairs_with p g 0) e), length-append (pairs_with p g 0 o) (pairs_with p g (0 + o) (m - o)))

module _ (p : ℕ → ℕ → Bool) (n : ℕ) where
  -- Guards may be gone through in two parts.
  pub from_parts : (g m k : ℕ) → pairs_from p n g (m + k) ≡ pairs_from p n g m ++ pairs_from p n (g + m) k
  unfolding pairs_from
  from_parts g zero k = rw (zero-add, add-zero)
  from_parts g (suc m) k =
      rw (suc-add m k, add-suc g m, ← suc-add g m)
      (ap (λ (l : List Pair). pairs_with p g 0 n ++ l) (from_parts (suc g) m k)
      ∙ sym (append_assoc (pairs_with p g 0 n) (pairs_from p n (suc g) m) (pairs_from p n (suc g + m) k)))

  -- The next guard's pairs are the last so far.
  pub from_next : (g : ℕ) → pairs_from p n 0 (g + 1) ≡ pairs_from p n 0 g ++ pairs_with p g 0 n
  unfolding pairs_from
  from_next g = from_parts 0 g 1 ∙ rw zero-add (ap (λ (l : List Pair). pairs_from p n 0 g ++ l) (append-nil (pairs_with p g 0 n)))

  -- There are no more pairs than 64 for each guard.
  pub from_few : n ≤ 64 → (g m : ℕ) → length (pairs_from p n g m) ≤ 64 * m
  unfolding pairs_from
  from_few h g zero = omega arith
  from_few h g (suc m) = omega (arith, length-append (pairs_with p g 0 n) (pairs_from p n (suc g) m), with_few p g 0 n, from_few h (suc g) m)

  -- More guards have no fewer pairs.
  pub from_grows : (g m : ℕ) → g ≤ m → length (pairs_from p n 0 g) ≤ length (pairs_from p n 0 m)
  from_grows g m h =
      let e : g + (m - g) ≡ m = omega arith in
      omega (arith, ap length (sym (from_parts 0 g (m - g)) ∙ ap (pairs_from p n 0) e), length-append (pairs_from p n 0 g) (pairs_from p n (0 + g) (m - g)))

-- A report has two bytes for each pair.
pub report_length : (ps : List Pair) → length (report_of ps) ≡ 2 * length ps
unfolding report_of
report_length [] = refl
report_length (p ∷ ps) = omega (arith, report_length ps)

-- The report of two lists is one after the other.
pub report_both : (ps qs : List Pair) → report_of (ps ++ qs) ≡ report_of ps ++ report_of qs
unfolding report_of
report_both [] qs = refl
report_both (p ∷ ps) qs = ap (λ (l : List ℕ). p.guard ∷ p.other ∷ l) (report_both ps qs)
