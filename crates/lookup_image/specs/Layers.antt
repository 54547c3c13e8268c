-- The layers of an image of a room, and how they come out.
use Rattle.std.specs.Prelude.{ℕ, zero, suc, List, [], ◌∷◌, map, Option, None, Some}
use Rattle.reference.specs.References.{Layer}
use Rattle.manifest.specs.Manifest.{layers}
use Rattle.store_record.specs.Image.{Image}
use Rattle.lookup_layers.specs.Layers.{LayerDigest}
use Rattle.lookup_paths.specs.Follow.{end_of}
use Rattle.lookup_outcome.specs.Outcome.{Outcome, outcome}

-- the layers of the image at a place
unfoldable pub layers_at : List Image → ℕ → List Layer
layers_at [] i = []
layers_at (x ∷ xs) zero = layers x.text
layers_at (x ∷ xs) (suc i) = layers_at xs i

-- the layers of a list; none where it is bad, which question 15 has asked before
unfoldable pub present_in : Option (List LayerDigest) → List LayerDigest
present_in None = []
present_in (Some ds) = ds

-- how the layers of the image at a place of the room come out
unfoldable pub outcome_in : List Image → ℕ → List LayerDigest → Outcome
outcome_in room place present = outcome present (map (end_of room) (layers_at room place))
