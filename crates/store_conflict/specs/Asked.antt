-- What is asked about the aliases of a manifest: of its image, or of its layers.
use Rattle.std.specs.Prelude.{ℕ, List, Bool}
use Rattle.reference_digests.specs.declared.algorithm.Algorithm.{Algorithm}
use Rattle.manifest.specs.Names.{SelfSorted, ContentsSorted}
use Rattle.store_record.specs.Image.{Image}
use Rattle.store_keys.specs.Signed.{shares_with, conflicts_with}
use Rattle.store_conflict.specs.declared.Aliases.{Aliases}
use Rattle.store_conflict.specs.declared.Aliases.TheVariants.{Own, Layers}

-- the positions `names` are those of these aliases of s, sorted by name; `keys` has for each alias of a layer the position of its key
abbrev pub SortedAliases : Aliases → List ℕ → List ℕ → List ℕ → Type 0
SortedAliases Own s names keys = SelfSorted s names
SortedAliases Layers s names keys = ContentsSorted s names keys

-- an image of that algorithm and signer has such an alias of the manifest s: one for itself, or one of a layer that s has for another object
abbrev pub clashes_in : Aliases → Algorithm → List ℕ → List ℕ → Image → Bool
clashes_in Own = shares_with
clashes_in Layers = conflicts_with
