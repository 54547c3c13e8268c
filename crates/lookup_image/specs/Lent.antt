-- What the steps of resolve are lent.
use Rattle.std.specs.Prelude.{ℕ, ◌≤◌, ◌<◌, ◌≡◌, List, ◌++◌, false, length}
use Rattle.reference.specs.References.{Layer}
use Rattle.manifest.specs.Opened.{Places}
use Rattle.manifest_objects.specs.Objects.{AllStand}
use Rattle.store_record.specs.Reading.{images_in}
use Rattle.store_record.specs.declared.Survey.{Survey}
use Rattle.store_keys.specs.Clash.{any_clash}
use Rattle.store_names.specs.Opened.{OpenedStore}
use Rattle.lookup_layers.specs.Reading.{SomeList}
use Rattle.lookup_paths.specs.Follow.{objects_of}
use Rattle.lookup_table.specs.Placed.{CountedTo}

-- the layers of image i of an opened store without clash can be resolved: `present` is a layer list, and the arrays lent are large enough
pub record Resolvable (b : List ℕ) (v : Survey) (places : List Places) (i : ℕ) (present at order names owners : List ℕ) : Type 0 where
  pub opened : OpenedStore b v places
  pub apart : any_clash (images_in b v) ≡ false
  pub within : i < v.count
  pub list : SomeList present
  pub at_space : length at ≡ 4160
  pub order_space : length order ≡ 4160
  pub names_space : 4096 ≤ length names
  pub owners_space : 4096 ≤ length owners

-- the references that stand at the positions `keys`, objects of the store's images and then layers, can be linked: there is room for all of them
pub record Linkable (b : List ℕ) (v : Survey) (places : List Places) (counts keys at order next names owners : List ℕ) : Type 0 where
  pub opened : OpenedStore b v places
  pub counted : CountedTo v.count b v counts
  pub layers : List Layer
  pub stand : AllStand b keys (objects_of (images_in b v) ++ layers)
  pub few : length keys ≤ 4160
  pub at_space : length keys ≤ length at
  pub order_space : length keys ≤ length order
  pub next_space : length keys ≤ length next
  pub names_space : 4096 ≤ length names
  pub owners_space : 4096 ≤ length owners
