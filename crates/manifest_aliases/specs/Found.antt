-- The object of a name in `contents` as it was found: the reference that was read, and the index of its key.
use Rattle.std.specs.Prelude.{ℕ, ◌<◌, ◌≡◌, List, length, get_or, Option, None, Some}
use Rattle.reference_digests.specs.declared.algorithm.Algorithm.{Algorithm}
use Rattle.reference.specs.References.{Layer, layer_alias, no_layer}
use Rattle.reference.specs.declared.layer.Layer.{Layer as ReadLayer}
use Rattle.manifest.specs.Manifest.{contents, aliased_object}
use Rattle.manifest.specs.Names.{objects}
use Rattle.manifest.specs.Opened.{Denotes}
use Rattle.manifest_aliases.specs.declared.Object.{Object}

-- an alias that was read in the text t
pub record AliasRead (t : List ℕ) (x : ReadLayer) : Type 0 where
  pub algorithm : Algorithm
  pub signer : List ℕ
  pub name : List ℕ
  pub denotes : Denotes t (Some x) (layer_alias algorithm signer name)

-- the object of the name n in s, as it was read in s, and the index of its key
pub record ObjectAt (s n : List ℕ) (i : ℕ) (x : Option ReadLayer) : Type 0 where
  pub object : Layer
  pub is : aliased_object n (contents s) ≡ Some object
  pub denotes : Denotes s x object
  pub within : i < length (objects s)
  pub index : get_or (objects s) i no_layer ≡ object

-- it is missing exactly if the name stands for nothing
abbrev pub FindsObject : List ℕ → List ℕ → Option Object → Type 0
FindsObject s n (Some o) = ObjectAt s n o.index o.object
FindsObject s n None = aliased_object n (contents s) ≡ None
