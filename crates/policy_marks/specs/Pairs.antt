-- The pairs that a policy report lists (document 01, "The room"): guard's place, other's place, by guard and then by other. An image paired
-- with itself is never reported.
use Rattle.std.specs.Prelude.{ℕ, zero, suc, ◌*◌, ◌<◌, ◌≡◌, ◌⊎◌, Bool, true, false, not, ◌&&◌, List, [], ◌∷◌, ◌++◌, eqb, ltb, length, get_or, drop}
use Rattle.policy_marks.specs.Marks.{mark, closed}

pub record Pair : Type 0 where
  pub guard : ℕ
  pub other : ℕ

-- by guard, and then by other
abbrev pub Before : Pair → Pair → Type 0
Before p q = (p.guard < q.guard) ⊎ ((p.guard ≡ q.guard) × (p.other < q.other))

-- each pair before the next, so that none stands twice
pub data Ordered : List Pair → Type 0 where
  empty : Ordered []
  single : {p : Pair} → Ordered (p ∷ [])
  more : {p q : Pair} {ps : List Pair} → Before p q → Ordered (q ∷ ps) → Ordered (p ∷ q ∷ ps)

-- the pairs of g with those of the m places from o on that p takes
unfoldable pub pairs_with : (ℕ → ℕ → Bool) → ℕ → ℕ → ℕ → List Pair
pairs_with p g o zero = []
pairs_with p g o (suc m) = elim (p g o) [ true ↦ record { guard = g; other = o } ∷ pairs_with p g (suc o) m | false ↦ pairs_with p g (suc o) m ]

-- those of the m places from g on with all n places
unfoldable pub pairs_from : (ℕ → ℕ → Bool) → ℕ → ℕ → ℕ → List Pair
pairs_from p n g zero = []
pairs_from p n g (suc m) = pairs_with p g 0 n ++ pairs_from p n (suc g) m

-- all pairs of n places that p takes, by the first and then by the second
unfoldable pub pairs_where : (ℕ → ℕ → Bool) → ℕ → List Pair
pairs_where p n = pairs_from p n 0 n

-- g is a guard, o another image, and t has no mark for the two
unfoldable pub is_reported : List Bool → List (List Bool) → ℕ → ℕ → Bool
is_reported guards t g o = get_or guards g false && (not (eqb g o) && not (mark t g o))

-- the pairs of a table that is closed
unfoldable pub pairs_in : List Bool → List (List Bool) → List Pair
pairs_in guards t = pairs_where (is_reported guards t) (length guards)

-- the pairs of any table: the guard leads to the other by no chain of marks
unfoldable pub pairs_of : List Bool → List (List Bool) → List Pair
pairs_of guards t = pairs_in guards (closed t)

-- a report: two bytes for each pair
unfoldable pub report_of : List Pair → List ℕ
report_of [] = []
report_of (p ∷ ps) = p.guard ∷ p.other ∷ report_of ps

-- 20: the report is longer than a buffer of that length
unfoldable pub no_report_space : ℕ → List Pair → Bool
no_report_space size ps = ltb size (2 * length ps)

-- by the number n of an answer: the number of pairs, 0 in a refusal; and the buffer, with the report at its start, of which a refusal changes no byte
unfoldable pub pairs_after : ℕ → List Pair → ℕ
pairs_after n ps = elim (eqb n 0) [ true ↦ length ps | false ↦ 0 ]

unfoldable pub report_after : ℕ → List Pair → List ℕ → List ℕ
report_after n ps buffer = elim (eqb n 0) [ true ↦ report_of ps ++ drop (2 * length ps) buffer | false ↦ buffer ]
