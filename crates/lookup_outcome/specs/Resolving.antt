-- What resolving the layers of an image works on, and what it answers.
use Rattle.std.specs.Prelude.{ℕ, ◌+◌, ◌≤◌, ◌<◌, ◌≡◌, List, [], ◌∷◌, Bool, true, false, length, take, get_or, Some, Result, Ok, Err}
use Rattle.reference.specs.References.{Layer, layer_digest, no_layer}
use Rattle.manifest_objects.specs.Objects.{StandsAt, AllStand}
use Rattle.store_record.specs.Image.{Image}
use Rattle.store_keys.specs.Clash.{any_clash}
use Rattle.lookup_layers.specs.Layers.{LayerDigest, entry_of, list_of, layers_in}
use Rattle.lookup_paths.specs.Follow.{keys_in, object_count}
use Rattle.lookup_links.specs.Links.{Links}
use Rattle.lookup_outcome.specs.Outcome.{Fate, found, lost, Outcome as LayersOutcome, resolved, fails}
use Rattle.lookup_outcome.specs.declared.Failure.{Failure}
use Rattle.lookup_outcome.specs.declared.FailedLayer.{FailedLayer}
use Rattle.lookup_outcome.specs.declared.Present.{Present}

-- the references refs, objects of the room's images and then layers, stand at the positions `keys` of b and are linked; `present` is the list of the layers ds
pub record Resolving (b keys next present : List ℕ) (objects : ℕ) (room : List Image) (refs : List Layer) (ds : List LayerDigest) : Type 0 where
  pub apart : any_clash room ≡ false
  pub stand : AllStand b keys refs
  pub links : Links (keys_in room) refs next
  pub count : object_count room ≡ objects
  pub few : objects ≤ length refs
  pub layers_few : length refs ≤ objects + 64
  pub list : layers_in present ≡ Some ds

-- some room, references and layers
pub record SomeResolving (b keys next present : List ℕ) (objects : ℕ) : Type 0 where
  pub room : List Image
  pub refs : List Layer
  pub layers : List LayerDigest
  pub is : Resolving b keys next present objects room refs layers

-- the layer d by its digest stands from position k of b on
pub record DigestStands (b : List ℕ) (k : ℕ) (d : LayerDigest) : Type 0 where
  pub stands : StandsAt b k (layer_digest d.algorithm d.bytes)

-- so many bytes has its entry, where it is listed, and else none
unfoldable pub size_if : Bool → LayerDigest → ℕ
size_if true d = length (entry_of d)
size_if false d = 0

-- some layer does
pub record SomeDigest (b : List ℕ) (k : ℕ) : Type 0 where
  pub digest : LayerDigest
  pub stands : DigestStands b k digest

-- one that does, and whose entry fits a buffer of that length
pub record EntryFits (b : List ℕ) (k size : ℕ) : Type 0 where
  pub digest : LayerDigest
  pub stands : DigestStands b k digest
  pub space : length (entry_of digest) ≤ size

-- the reference with number o is the layer d by its digest
pub record DigestAt (refs : List Layer) (o : ℕ) (d : LayerDigest) : Type 0 where
  pub within : o < length refs
  pub is : get_or refs o no_layer ≡ layer_digest d.algorithm d.bytes

-- the digests ds are the references with the numbers os
pub data AllMet (refs : List Layer) : List ℕ → List LayerDigest → Type 0 where
  none_met : AllMet refs [] []
  met_too : {o : ℕ} {os : List ℕ} {d : LayerDigest} {ds : List LayerDigest} → DigestAt refs o d → AllMet refs os ds → AllMet refs (o ∷ os) (d ∷ ds)

-- a layer was found: its digest is the reference with number o, and its entry has n bytes
pub record FoundAt (refs : List Layer) (f : Fate) (o n : ℕ) : Type 0 where
  pub digest : LayerDigest
  pub at : DigestAt refs o digest
  pub size : n ≡ length (entry_of digest)
  pub is : f ≡ found digest

-- a layer that comes out so is answered so
abbrev pub Answers : List Layer → Fate → Result Present Failure → Type 0
Answers refs f (Ok p) = FoundAt refs f p.number p.size
Answers refs f (Err e) = f ≡ lost e

-- all layers were found: their digests are the references with the numbers at the start of `numbers`, and the list of them has n bytes
pub record AllFound (refs : List Layer) (o : LayersOutcome) (numbers : List ℕ) (n : ℕ) : Type 0 where
  pub digests : List LayerDigest
  pub met : AllMet refs (take (length digests) numbers) digests
  pub size : n ≡ length (list_of digests)
  pub is : o ≡ resolved digests

-- layers that come out so are answered so
abbrev pub Checks : List Layer → LayersOutcome → List ℕ → Result ℕ FailedLayer → Type 0
Checks refs o numbers (Ok n) = AllFound refs o numbers n
Checks refs o numbers (Err e) = o ≡ fails e.layer.0 e.why

-- the digests with these numbers can be written to a buffer of that length
pub record Writable (b keys numbers : List ℕ) (size : ℕ) : Type 0 where
  pub refs : List Layer
  pub stand : AllStand b keys refs
  pub digests : List LayerDigest
  pub met : AllMet refs numbers digests
  pub space : length (list_of digests) ≤ size
