-- What following the links from a number answers.
use Rattle.std.specs.Prelude.{ℕ, ◌≤◌, ◌<◌, ◌≡◌, List, length, get_or}
use Rattle.reference.specs.References.{Layer, layer_digest, no_layer}
use Rattle.reference_digests.specs.declared.algorithm.Algorithm.{Algorithm}
use Rattle.store_keys.specs.Keys.{LayerKey}
use Rattle.lookup_paths.specs.Follow.{End, met, undefined, endless}
use Rattle.lookup_links.specs.Links.{Links}
use Rattle.lookup_links.specs.declared.PathEnd.{PathEnd}
use Rattle.lookup_links.specs.declared.PathEnd.TheVariants.{Met, Undefined, Endless}

-- some references are linked so; one of them has the number e, and so many are objects
pub record Followable (next : List ℕ) (e objects : ℕ) : Type 0 where
  pub keys : List LayerKey
  pub refs : List Layer
  pub links : Links keys refs next
  pub within : e < length refs
  pub few : objects ≤ length refs

-- the path meets the digest that is the reference with number o
pub record MetAt (refs : List Layer) (end : End) (o : ℕ) : Type 0 where
  pub algorithm : Algorithm
  pub digest : List ℕ
  pub within : o < length refs
  pub is : get_or refs o no_layer ≡ layer_digest algorithm digest
  pub end_is : end ≡ met algorithm digest

-- a path with that end is answered so
abbrev pub Ends : List Layer → End → PathEnd → Type 0
Ends refs e (Met o) = MetAt refs e o
Ends refs e Undefined = e ≡ undefined
Ends refs e Endless = e ≡ endless
