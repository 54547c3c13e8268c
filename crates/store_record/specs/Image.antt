-- What a store keeps of an image (document 01, "The room").
use Rattle.std.specs.Prelude.{ℕ, List}
use Rattle.reference.specs.References.{Id}

-- an image: its IDs, of which it has one, and its manifest in canonical form
pub record Image : Type 0 where
  pub ids : List Id
  pub text : List ℕ
