-- What the answers of resolve tell of an image's layers (document 01, "The room"): by the paths from these layers, with no algorithm in them.
use Rattle.std.specs.Prelude.{ℕ, zero, suc, ◌≤◌, ◌<◌, ◌≡◌, true, length, drop, Some}
use mathlib.Core.List.{List, [], ◌∷◌, ◌++◌, Memᴰ as In}
use Rattle.reference_digests.specs.declared.algorithm.Algorithm.{Algorithm}
use Rattle.reference.specs.References.{Layer}
use Rattle.store_record.specs.Image.{Image}
use Rattle.store_open.specs.Held.{held, well_formed}
use Rattle.lookup_layers.specs.Layers.{LayerDigest, list_of, layers_in}
use Rattle.lookup_paths.specs.Path.{Meets, Lost}
use Rattle.lookup_outcome.specs.declared.Failure.{Failure}
use Rattle.lookup_outcome.specs.declared.Failure.TheVariants.{Undefined, Endless, Absent}
use Rattle.lookup.specs.Resolve.{resolve_value, resolve_bytes}
use Rattle.lookup_image.specs.Layers.{layers_at}

-- the paths from the layers ls meet the digests ds, one by one, and each of these is present
pub data AllMeet (room : List Image) (present : List LayerDigest) : List Layer → List LayerDigest → Type 0 where
  none_meets : AllMeet room present [] []
  meets_too : {l : Layer} {ls : List Layer} {d : LayerDigest} {ds : List LayerDigest}
      → Meets room l d.algorithm d.bytes → In d present → AllMeet room present ls ds → AllMeet room present (l ∷ ls) (d ∷ ds)

-- a layer fails: its path comes to an alias that no image defines, it goes on without end, or it meets a digest that is not present
pub data Fails (room : List Image) (present : List LayerDigest) (l : Layer) : Failure → Type 0 where
  lost : Lost room l → Fails room present l Undefined
  goes_on : ((a : Algorithm) (d : List ℕ) → Meets room l a d → ⊥) → (Lost room l → ⊥) → Fails room present l Endless
  absent : {d : LayerDigest} → Meets room l d.algorithm d.bytes → (In d present → ⊥) → Fails room present l Absent

-- the layer with number k is the first of ls that fails: the paths from those before it meet digests that are present
pub data FirstFails (room : List Image) (present : List LayerDigest) : List Layer → ℕ → Failure → Type 0 where
  first_fails : {l : Layer} {ls : List Layer} {f : Failure} → Fails room present l f → FirstFails room present (l ∷ ls) zero f
  later_fails : {l : Layer} {ls : List Layer} {d : LayerDigest} {k : ℕ} {f : Failure}
      → Meets room l d.algorithm d.bytes → In d present → FirstFails room present ls k f → FirstFails room present (l ∷ ls) (suc k) f

-- what resolve is asked of: a well-formed store with an image at that place, and a layer list
pub record Asked (buffer : List ℕ) (used : ℕ) (list : List ℕ) (place : ℕ) : Type 0 where
  pub images : List Image
  pub holds : held buffer used ≡ Some images
  pub well : well_formed buffer used ≡ true
  pub within : place < length images
  pub present : List LayerDigest
  pub reads : layers_in list ≡ Some present

-- what the number 0 tells: the digests that the paths from the image's layers meet are what is written, as a layer list
pub record Resolved (buffer : List ℕ) (used : ℕ) (list : List ℕ) (place space : ℕ) : Type 0 where
  pub asked : Asked buffer used list place
  pub digests : List LayerDigest
  pub meet : AllMeet asked.images asked.present (layers_at asked.images place) digests
  pub value : resolve_value buffer used list place space ≡ length (list_of digests)
  pub fits : length (list_of digests) ≤ space
  pub written : layers_in (list_of digests) ≡ Some digests
  pub bytes : (out : List ℕ) → length out ≡ space → resolve_bytes buffer used list place out ≡ list_of digests ++ drop (length (list_of digests)) out

-- what the number of a failure tells: the value is the number of the image's first layer that fails, which fails so
pub record Unresolved (buffer : List ℕ) (used : ℕ) (list : List ℕ) (place space : ℕ) (f : Failure) : Type 0 where
  pub asked : Asked buffer used list place
  pub fails : FirstFails asked.images asked.present (layers_at asked.images place) (resolve_value buffer used list place space) f
