-- What resolve answers and writes, by how the layers come out (document 01, "The room" and "What comes back").
use Rattle.std.specs.Prelude.{ℕ, ◌≡◌, List, ◌++◌, [], ◌∷◌, false, Bool, true, length, drop, ltb, eqb}
use Rattle.lookup_outcome.specs.Outcome.{Outcome, resolved, fails, failure_number}
use Rattle.answer.specs.declared.Answer.{Answer}
use Rattle.text.specs.Question.{Question}
use Rattle.lookup_layers.specs.Layers.{list_of}

-- a layer fails
unfoldable pub has_failed : Outcome → Bool
has_failed (resolved ds) = false
has_failed (fails k f) = true

-- 17, 18 or 19
unfoldable pub outcome_number : Outcome → ℕ
outcome_number (resolved ds) = 0
outcome_number (fails k f) = failure_number f

-- the bytes of the output
unfoldable pub output_of : Outcome → List ℕ
output_of (resolved ds) = list_of ds
output_of (fails k f) = []

-- of the first layer that fails, and of space for the output
unfoldable pub layer_questions : Outcome → ℕ → List Question
layer_questions o space = record { number = outcome_number o; applies = has_failed o } ∷ record { number = 20; applies = ltb space (length (output_of o)) } ∷ []

-- by the number n of an answer: the output's length; in 17, 18 and 19 the index of the layer; and else 0
unfoldable pub value_after : ℕ → Outcome → ℕ
value_after n (resolved ds) = elim (eqb n 0) [ true ↦ length (list_of ds) | false ↦ 0 ]
value_after n (fails k f) = elim (eqb n (failure_number f)) [ true ↦ k | false ↦ 0 ]

-- and the output buffer, of which a refusal changes no byte
unfoldable pub bytes_after : ℕ → Outcome → List ℕ → List ℕ
bytes_after n o out = elim (eqb n 0) [ true ↦ output_of o ++ drop (length (output_of o)) out | false ↦ out ]

-- the answer r of number n for layers that come out so: its value, and the buffer from `before` to `after`
pub record Resolves (n : ℕ) (o : Outcome) (before : List ℕ) (r : Answer) (after : List ℕ) : Type 0 where
  pub number : r.number ≡ n
  pub value : r.value ≡ value_after n o
  pub bytes : after ≡ bytes_after n o before
