-- The walks over a group of aliases and over an array of strings: what they require, and what they have written.
use Rattle.std.specs.Prelude.{ℕ, ◌+◌, ◌<◌, ◌≤◌, ◌≡◌, List, ◌++◌, length, take, get_or}
use Rattle.text_content.specs.Value.{Values}
use Rattle.reference.specs.References.{Layer, no_layer}
use Rattle.manifest_entries.specs.Entries.{count}
use Rattle.manifest_fields.specs.Accessors.{texts}
use Rattle.manifest_repeat.specs.Names.{Collectable, GroupAt}
use Rattle.manifest.specs.Manifest.{Alias, aliases_to}
use Rattle.manifest.specs.Names.{keys_of, objects}
use Rattle.manifest_objects.specs.Objects.{Listed}

-- an array of strings whose positions fit behind the first n of `names`, as does the number o of their object behind those of `owners`
pub record Listable (s : List ℕ) (at depth o : ℕ) (names owners : List ℕ) (n : ℕ) : Type 0 where
  pub list : Collectable s at depth names n
  pub space : n + count list.values ≤ length owners
  pub small : o < 64

-- the strings of vs are added behind the first n as aliases of the object with the number o
abbrev pub AddsListed : List ℕ → ℕ → Values → List ℕ → List ℕ → ℕ → List ℕ → List ℕ → ℕ → Type 0
AddsListed s o vs names₀ owners₀ n names owners r =
    (r ≡ n + count vs)
    × ((l : Layer) (xs : List Alias) → o < length (objects s) → get_or (objects s) o no_layer ≡ l → Listed s (take n names₀) (take n owners₀) xs
    → Listed s (take r names) (take r owners) (xs ++ aliases_to l (texts vs)))

-- the group of aliases whose keys are the objects of the manifest, and space
pub record ListableGroup (s : List ℕ) (at depth : ℕ) (names owners : List ℕ) : Type 0 where
  pub group : GroupAt s at depth names
  pub keys : objects s ≡ keys_of group.fields
  pub space : 4096 ≤ length owners
