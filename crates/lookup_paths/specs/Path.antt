-- How an alias is followed from object to object until a digest is met (document 01, "The room" and "References, names and rules"), with no algorithm in it.
use Rattle.std.specs.Prelude.{ℕ, ◌≡◌}
use mathlib.Core.List.{List, Memᴰ as In}
use Rattle.reference.specs.References.{Layer, layer_digest, layer_alias}
use Rattle.reference_digests.specs.declared.algorithm.Algorithm.{Algorithm}
use Rattle.store_record.specs.Image.{Image}
use Rattle.store_keys.specs.Keys.{Key, LayerKey, layer_keys}

-- a layer key as a reference
abbrev pub alias_of : Key → Layer
alias_of k = layer_alias k.algorithm k.signer k.name

-- some image of the room defines the alias, with that object
pub data Defines (room : List Image) : Layer → Layer → Type 0 where
  by_image : {x : Image} {k : LayerKey} → In x room → In k (layer_keys x) → Defines room (alias_of k.key) k.object

-- the path from a layer reference meets a digest
pub data Meets (room : List Image) : Layer → Algorithm → List ℕ → Type 0 where
  here : {a : Algorithm} {d : List ℕ} → Meets room (layer_digest a d) a d
  onward : {l m : Layer} {a : Algorithm} {d : List ℕ} → Defines room l m → Meets room m a d → Meets room l a d

-- the path ends at a reference that is no digest and that no image defines
pub data Lost (room : List Image) : Layer → Type 0 where
  undefined : {l : Layer} → ((a : Algorithm) (d : List ℕ) → l ≡ layer_digest a d → ⊥) → ((m : Layer) → Defines room l m → ⊥) → Lost room l
  lost_onward : {l m : Layer} → Defines room l m → Lost room m → Lost room l
