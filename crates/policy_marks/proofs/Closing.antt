-- The closure of a table marks exactly what a chain of marks leads to.
use Prim.Native.Nat.{ℕ, zero, suc, ◌+◌, ◌<◌}
use mathlib.Core.Path.{◌≡◌, refl, sym, ap, subst, ◌∙◌}
use mathlib.Core.List.{List, [], ◌∷◌}
use mathlib.Core.Logic.{◌⊎◌, inl, inr, ⊎_elim}
use mathlib.Core.Bool.{Bool, true, false, ◌||◌, ◌&&◌, or-false, or-true}
use native.Mathlib.Omega.{arith}
use native.Mathlib.Numerals.{add-one}
use lib.Dec.{ltb}
use lib.ListN.{length, get_or, length-map, get_or-map, get_or-eq_default}
use borrow.Author.Tests.{ltb-true, ltb-false}
use Rattle.laws.proofs.Order.{by_test, false_true}
use Rattle.policy_marks.specs.Marks.{mark, or_row, through, closed_at, closed_below, closed}

-- A row joined to another has a mark where either has one.
pub or_row_at : (xs ys : List Bool) (j : ℕ) → get_or (or_row xs ys) j false ≡ (get_or xs j false || get_or ys j false)
unfolding or_row
or_row_at [] ys j = refl
or_row_at (x ∷ xs) [] j = sym (or-false (get_or (x ∷ xs) j false))
or_row_at (x ∷ xs) (y ∷ ys) zero = refl
or_row_at (x ∷ xs) (y ∷ ys) (suc j) = or_row_at xs ys j

through_at : (k : ℕ) (next row : List Bool) (j : ℕ) → get_or (through k next row) j false ≡ (get_or row j false || (get_or row k false && get_or next j false))
unfolding through
through_at k next row j =
    by_test (get_or row k false)
    (λ e. rw (e, through) (or_row_at row next j))
    (λ e. rw (e, through) (sym (or-false (get_or row j false))))

-- A table closed at k has a mark where it had one, or where a mark leads to k and one from there.
pub mark_closed_at : (k : ℕ) (t : List (List Bool)) (i j : ℕ) → mark (closed_at k t) i j ≡ (mark t i j || (mark t i k && mark t k j))
unfolding mark closed_at through
mark_closed_at k t i j =
    ap (λ (row : List Bool). get_or row j false) (get_or-map (through k (get_or t k [])) t i []) ∙ through_at k (get_or t k []) (get_or t i []) j

-- A table that is closed for the first k images is closed for one more.
pub below_next : (k : ℕ) (t : List (List Bool)) {s : List (List Bool)} → s ≡ closed_below k t → closed_at k s ≡ closed_below (k + 1) t
unfolding closed_below
below_next k t e = ap (closed_at k) e ∙ rw add-one

-- A table that is closed for all its images is closed.
pub all_closed : (k : ℕ) (t : List (List Bool)) → k ≡ length t → closed_below k t ≡ closed t
unfolding closed
all_closed k t e = ap (λ (i : ℕ). closed_below i t) e

-- A table that is closed has as many rows as before.
pub closed_length : (k : ℕ) (t : List (List Bool)) → length (closed_below k t) ≡ length t
unfolding closed_below closed_at
closed_length zero t = refl
closed_length (suc k) t = length-map (closed_below k t) _ ∙ closed_length k t

either : (a b c : Bool) → (a || (b && c)) ≡ true → (a ≡ true) ⊎ ((b ≡ true) × (c ≡ true))
either true b c e = inl refl
either false true c e = inr (refl, e)
either false false c e = false_true e

module _ (k : ℕ) (t : List (List Bool)) (i j : ℕ) where
  -- what a mark of a table closed at k says
  marked_by : mark (closed_at k t) i j ≡ true → (mark t i j ≡ true) ⊎ ((mark t i k ≡ true) × (mark t k j ≡ true))
  marked_by e = either (mark t i j) (mark t i k) (mark t k j) (sym (mark_closed_at k t i j) ∙ e)

  marked_still : mark t i j ≡ true → mark (closed_at k t) i j ≡ true
  marked_still e = mark_closed_at k t i j ∙ rw e

  marked_over : mark t i k ≡ true → mark t k j ≡ true → mark (closed_at k t) i j ≡ true
  marked_over e f = mark_closed_at k t i j ∙ rw (e, f) (or-true (mark t i j))

-- a chain of marks leads from one image to the other
pub data Leads (t : List (List Bool)) : ℕ → ℕ → Type 0 where
  one : {i j : ℕ} → mark t i j ≡ true → Leads t i j
  more : {i k j : ℕ} → mark t i k ≡ true → Leads t k j → Leads t i j

module _ (t : List (List Bool)) where
  -- Chains follow one another.
  pub leads_on : {i k j : ℕ} → Leads t i k → Leads t k j → Leads t i j
  leads_on (one e) m = more e m
  leads_on (more e l) m = more e (leads_on l m)

  -- the same of the closure as far as it is made
  below_leads : (m i j : ℕ) → mark (closed_below m t) i j ≡ true → Leads t i j
  unfolding closed_below
  below_leads zero i j e = one e
  below_leads (suc m) i j e =
      ⊎_elim (below_leads m i j) (λ w. leads_on (below_leads m i m w.0) (below_leads m m j w.1)) (marked_by m (closed_below m t) i j e)

  below_still : (m i j : ℕ) → mark t i j ≡ true → mark (closed_below m t) i j ≡ true
  unfolding closed_below
  below_still zero i j e = e
  below_still (suc m) i j e = marked_still m (closed_below m t) i j (below_still m i j e)

  -- what is marked by way of an image below m is marked
  below_over : (m p i j : ℕ) → p < m → mark (closed_below m t) i p ≡ true → mark (closed_below m t) p j ≡ true → mark (closed_below m t) i j ≡ true
  unfolding closed_below
  below_over zero p i j h e f = absurd (omega arith)
  below_over (suc m) p i j h e f =
      by_test (ltb p m)
      (λ l. earlier (below_over m p) (ltb-true p m l) (marked_by m s i p e) (marked_by m s p j f))
      (λ l. let q : p ≡ m = omega (arith, ltb-false p m l) in last
      (marked_by m s i m (subst (λ (x : ℕ). mark (closed_at m s) i x ≡ true) q e))
      (marked_by m s m j (subst (λ (x : ℕ). mark (closed_at m s) x j ≡ true) q f)))
    where
      s : List (List Bool)
      s = closed_below m t

      Way : ℕ → ℕ → Type 0
      Way x y = (mark s x y ≡ true) ⊎ ((mark s x m ≡ true) × (mark s m y ≡ true))

      earlier : ((x y : ℕ) → p < m → mark s x p ≡ true → mark s p y ≡ true → mark s x y ≡ true)
          → p < m → Way i p → Way p j → mark (closed_at m s) i j ≡ true
      earlier ih l (inl a) (inl b) = marked_still m s i j (ih i j l a b)
      earlier ih l (inl a) (inr b) = marked_over m s i j (ih i m l a b.0) b.1
      earlier ih l (inr a) (inl b) = marked_over m s i j a.0 (ih m j l a.1 b)
      earlier ih l (inr a) (inr b) = marked_over m s i j a.0 b.1

      last : Way i m → Way m j → mark (closed_at m s) i j ≡ true
      last v w = marked_over m s i j (⊎_elim (λ a. a) (λ a. a.0) v) (⊎_elim (λ b. b) (λ b. b.1) w)

  -- a row with a mark is one of the table
  marked_inside : (i j : ℕ) → mark t i j ≡ true → i < length t
  unfolding mark
  marked_inside i j e =
      by_test (ltb i (length t)) (ltb-true i (length t))
      (λ l. false_true (sym (ap (λ (row : List Bool). get_or row j false) (get_or-eq_default t [] (ltb-false i (length t) l))) ∙ e))

  leads_inside : {i j : ℕ} → Leads t i j → i < length t
  leads_inside {i} {j} (one e) = marked_inside i j e
  leads_inside (more {i = i} {k = k} e l) = marked_inside i k e

  -- What the closure marks, a chain of marks leads to.
  pub closed_leads : (i j : ℕ) → mark (closed t) i j ≡ true → Leads t i j
  unfolding closed
  closed_leads i j e = below_leads (length t) i j e

  -- What a chain of marks leads to, the closure marks.
  pub leads_closed : {i j : ℕ} → Leads t i j → mark (closed t) i j ≡ true
  unfolding closed
  leads_closed (one {i = i} {j = j} e) = below_still (length t) i j e
  leads_closed (more {i = i} {k = k} {j = j} e l) =
      below_over (length t) k i j (leads_inside l) (below_still (length t) i k e) (leads_closed l)
