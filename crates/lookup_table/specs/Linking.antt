-- Aliases of the table are linked to their objects: one key after the other, and image by image.
use Rattle.std.specs.Prelude.{ℕ, ◌+◌, ◌<◌, ◌≤◌, ◌≡◌, List, ◌++◌, Bool, true, false, ◌&&◌, eqb, length, get_or}
use Rattle.laws.specs.Any.{any_of}
use Rattle.reference_digests.specs.declared.algorithm.Algorithm.{Algorithm}
use Rattle.reference.specs.References.{Layer, no_layer}
use Rattle.manifest.specs.Names.{objects}
use Rattle.manifest.specs.Opened.{Opens}
use Rattle.manifest.specs.Opened.{Places}
use Rattle.manifest_objects.specs.Objects.{is_alias_of}
use Rattle.store_record.specs.Reading.{between, images_in, RecordIn}
use Rattle.store_record.specs.declared.Record.{Record}
use Rattle.store_record.specs.declared.Survey.{Survey}
use Rattle.store_keys.specs.Keys.{LayerKey}
use Rattle.store_names.specs.Opened.{OpenedStore}
use Rattle.lookup_paths.specs.Follow.{objects_of}
use Rattle.lookup_index.specs.Table.{Table, SomeTable}
use Rattle.lookup_table.specs.Placed.{CountedTo}

-- the layer key of an alias, with its object
abbrev pub layer_key : Algorithm → List ℕ → List ℕ → Layer → LayerKey
layer_key a s n o = record { key = record { algorithm = a; signer = s; name = n }; object = o }

-- a link is replaced or stays
unfoldable pub link_to : Bool → ℕ → ℕ → ℕ
link_to true new old = new
link_to false new old = old

-- the chosen references that are aliases of the algorithm a and the signer s are linked to the object with number o, and no others
pub record Relinked (a : Algorithm) (s : List ℕ) (refs : List Layer) (o : ℕ) (chosen before after : List ℕ) : Type 0 where
  pub size : length after ≡ length before
  pub each : (e : ℕ) → e < length refs
      → get_or after e 0 ≡ link_to (any_of (eqb e) chosen && is_alias_of a s (get_or refs e no_layer)) o (get_or before e 0)

-- the objects ls have the numbers from `first` on
pub record ObjectsFrom (refs : List Layer) (first : ℕ) (ls : List Layer) : Type 0 where
  pub within : first + length ls ≤ length refs
  pub each : (o : ℕ) → o < length ls → get_or refs (first + o) no_layer ≡ get_or ls o no_layer

-- the aliases of the image of a record can be linked to its objects, which have the numbers from `first` on
pub record LinkableImage (b : List ℕ) (r : Record) (q : Places) (first : ℕ) (keys at order next names owners : List ℕ) : Type 0 where
  pub table : SomeTable b keys at order
  pub is_in : RecordIn b r
  pub opens : Opens (between b r.text r.end) q
  pub within : first + length (objects (between b r.text r.end)) ≤ length keys
  pub space : length keys ≤ length next
  pub names_space : 4096 ≤ length names
  pub owners_space : 4096 ≤ length owners

-- the aliases of all images of a store can be linked: the table has their objects, and layers after them
pub record LinkableStore (b : List ℕ) (v : Survey) (places : List Places) (counts keys at order next names owners : List ℕ) : Type 0 where
  pub opened : OpenedStore b v places
  pub counted : CountedTo v.count b v counts
  pub layers : List Layer
  pub table : Table b keys at order (objects_of (images_in b v) ++ layers)
  pub space : length keys ≤ length next
  pub names_space : 4096 ≤ length names
  pub owners_space : 4096 ≤ length owners
