-- What judge answers and writes (document 01, "The room" and "What comes back"): questions 11 and 20, and the lowest that applies.
use Rattle.std.specs.Prelude.{ℕ, ◌≡◌, List, [], ◌∷◌, length, Option}
use Rattle.text.specs.Question.{Question, lowest}
use Rattle.policy_marks.specs.Pairs.{Pair, no_report_space, pairs_after, report_after}
use Rattle.store_record.specs.Image.{Image}
use Rattle.store_open.specs.Held.{held, is_broken, among}
use Rattle.policy.specs.Pairs.{pairs}

-- of the images in a buffer of the first length, for a report buffer of the second
unfoldable pub judge_questions : ℕ → Option (List Image) → ℕ → List Question
judge_questions size images report_size =
    record { number = 11; applies = is_broken size images }
    ∷ record { number = 20; applies = no_report_space report_size (pairs (among images)) }
    ∷ []

unfoldable pub judge_number : List ℕ → ℕ → ℕ → ℕ
judge_number buffer used report_size = lowest (judge_questions (length buffer) (held buffer used) report_size)

-- the pairs of the images that a buffer holds
unfoldable pub held_pairs : List ℕ → ℕ → List Pair
held_pairs buffer used = pairs (among (held buffer used))

unfoldable pub judge_pairs : List ℕ → ℕ → ℕ → ℕ
judge_pairs buffer used report_size = pairs_after (judge_number buffer used report_size) (held_pairs buffer used)

unfoldable pub judge_bytes : List ℕ → ℕ → List ℕ → List ℕ
judge_bytes buffer used report = report_after (judge_number buffer used (length report)) (held_pairs buffer used) report

-- a store is admitted when judge gives number 0 and 0 pairs (document 01, "Demand 3, word by word")
pub record Admitted (buffer : List ℕ) (used : ℕ) (report_size : ℕ) : Type 0 where
  pub number : judge_number buffer used report_size ≡ 0
  pub none : judge_pairs buffer used report_size ≡ 0
