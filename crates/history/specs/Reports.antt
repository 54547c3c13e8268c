-- Pairs of Image IDs (document 01, "Demand 3, word by word"): the pairs of a report in a buffer long enough, with each place replaced by the
-- Image ID there.
use Rattle.std.specs.Prelude.{ℕ, zero, suc, ◌*◌, ◌≤◌, ◌↔◌, length, get_or}
use mathlib.Core.List.{List, [], ◌∷◌, map, Memᴰ as In}
use Rattle.reference.specs.References.{Id, no_id}
use Rattle.policy_marks.specs.Pairs.{Pair}
use Rattle.store_record.specs.Image.{Image}
use Rattle.store_open.specs.Held.{held, among}
use Rattle.policy.specs.Judge.{held_pairs, judge_pairs, judge_bytes}
use Rattle.history.specs.Calls.{State}

-- the first so many pairs of places in some bytes
unfoldable pub read_pairs : ℕ → List ℕ → List Pair
read_pairs zero bytes = []
read_pairs (suc n) [] = []
read_pairs (suc n) (g ∷ []) = []
read_pairs (suc n) (g ∷ o ∷ bytes) = record { guard = g; other = o } ∷ read_pairs n bytes

-- what judge writes into a report buffer
unfoldable pub listed : State → List ℕ → List Pair
listed s report = read_pairs (judge_pairs s.buffer s.used (length report)) (judge_bytes s.buffer s.used report)

-- the Image ID of an image is its first
unfoldable pub first_id : List Id → Id
first_id [] = no_id
first_id (i ∷ is) = i

unfoldable pub id_at : List Image → ℕ → Id
id_at xs k = get_or (map (λ (x : Image). first_id x.ids) xs) k no_id

pub record IdPair : Type 0 where
  pub guard : Id
  pub other : Id

unfoldable pub named : List Image → Pair → IdPair
named xs p = record { guard = id_at xs p.guard; other = id_at xs p.other }

unfoldable pub id_pairs : State → List ℕ → List IdPair
id_pairs s report = map (named (among (held s.buffer s.used))) (listed s report)

-- a report buffer is long enough with two bytes for each pair
abbrev pub LongEnough : State → List ℕ → Type 0
LongEnough s report = 2 * length (held_pairs s.buffer s.used) ≤ length report

-- the pairs are the same if each is in both reports or in neither
abbrev pub SameReports : State → State → Type 0
SameReports s t =
    (first second : List ℕ) → LongEnough s first → LongEnough t second → (p : IdPair) → In p (id_pairs s first) ↔ In p (id_pairs t second)
