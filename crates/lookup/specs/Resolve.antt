-- What resolve answers and writes (document 01, "The room" and "What comes back"): questions 11 and 15 to 20. Of 17, 18 and 19 there is one, that of the first
-- layer that fails; 20 is asked only if none does.
use Rattle.std.specs.Prelude.{ℕ, not, List, ◌∷◌, leb, length, Option}
use Rattle.text.specs.Question.{Question, lowest}
use Rattle.store_record.specs.Image.{Image}
use Rattle.store_open.specs.Held.{held, is_broken, among}
use Rattle.lookup_layers.specs.Layers.{LayerDigest, layers_in, is_given}
use Rattle.lookup_outcome.specs.Outcome.{Outcome}
use Rattle.lookup_answer.specs.Answers.{bytes_after, layer_questions, value_after}
use Rattle.lookup_image.specs.Layers.{outcome_in, present_in}

-- of the images in a buffer of that length, a layer list, a place, and an output buffer of the last length
unfoldable pub resolve_questions : ℕ → Option (List Image) → Option (List LayerDigest) → ℕ → ℕ → List Question
resolve_questions size images present place space =
    record { number = 11; applies = is_broken size images }
    ∷ record { number = 15; applies = not (is_given present) }
    ∷ record { number = 16; applies = leb (length (among images)) place }
    ∷ layer_questions (outcome_in (among images) place (present_in present)) space

unfoldable pub resolve_number : List ℕ → ℕ → List ℕ → ℕ → ℕ → ℕ
resolve_number buffer used list place space = lowest (resolve_questions (length buffer) (held buffer used) (layers_in list) place space)

-- how the layers of the image at a place of a buffer's store come out
unfoldable pub held_outcome : List ℕ → ℕ → List ℕ → ℕ → Outcome
held_outcome buffer used list place = outcome_in (among (held buffer used)) place (present_in (layers_in list))

unfoldable pub resolve_value : List ℕ → ℕ → List ℕ → ℕ → ℕ → ℕ
resolve_value buffer used list place space = value_after (resolve_number buffer used list place space) (held_outcome buffer used list place)

unfoldable pub resolve_bytes : List ℕ → ℕ → List ℕ → ℕ → List ℕ → List ℕ
resolve_bytes buffer used list place out = bytes_after (resolve_number buffer used list place (length out)) (held_outcome buffer used list place) out
