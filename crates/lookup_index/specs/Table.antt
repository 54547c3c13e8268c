-- The references of a room in a table: at the positions `keys` of the bytes b they stand, `at` has the position where the name of each alias among them
-- begins, and `order` has the numbers of these aliases, sorted by name.
use Rattle.std.specs.Prelude.{ℕ, zero, suc, ◌<◌, ◌≤◌, ◌≡◌, List, [], ◌∷◌, Bool, true, false, eqb, length, get_or, set}
use Rattle.laws.specs.Any.{any_of}
use Rattle.reference.specs.References.{Layer, layer_digest, layer_alias, no_layer}
use Rattle.manifest_index.specs.Index.{name_at, NumberOf, SomeNameIndex}
use Rattle.manifest_objects.specs.Objects.{AllStand}
use Rattle.lookup_links.specs.Links.{digest_mark, undefined_mark, bad_mark}

-- the most references: 64 objects of each of 64 images, and 64 layers
abbrev pub most_references : ℕ
most_references = 4160

-- the reference is an alias
unfoldable pub is_alias : Layer → Bool
is_alias (layer_alias a s n) = true
is_alias (layer_digest a d) = false
is_alias no_layer = false

-- how a reference is marked while no alias is defined
unfoldable pub mark_of : Layer → ℕ
mark_of (layer_alias a s n) = undefined_mark
mark_of (layer_digest a d) = digest_mark
mark_of no_layer = bad_mark

-- where the reference is an alias, its name begins at the position with number e
abbrev pub NamedAt : List ℕ → List ℕ → ℕ → Layer → Type 0
NamedAt b at e (layer_alias a s n) = NumberOf b at e × (name_at b at e ≡ n)
NamedAt b at e (layer_digest a d) = Unit {0}
NamedAt b at e no_layer = Unit {0}

-- the name of each alias begins at the position with its number
pub record AllNamed (b : List ℕ) (refs : List Layer) (at : List ℕ) : Type 0 where
  pub each : (e : ℕ) → e < length refs → NamedAt b at e (get_or refs e no_layer)

-- some references stand at the positions `keys`, and they are few
pub record SomeReferences (b keys : List ℕ) : Type 0 where
  pub refs : List Layer
  pub stand : AllStand b keys refs
  pub few : length keys ≤ most_references

-- reference l, with number e, was marked, and its name was placed if it is an alias
pub record Marks (b : List ℕ) (e : ℕ) (l : Layer) (at₀ next₀ at next : List ℕ) : Type 0 where
  pub size : length at ≡ length at₀
  pub mark : next ≡ set next₀ e (mark_of l)
  pub named : NamedAt b at e l
  pub others : (i : ℕ) → (i ≡ e → ⊥) → get_or at i 0 ≡ get_or at₀ i 0

-- the numbers below n that are marked as aliases which nothing defines, the last of them in front
unfoldable pub undefined_in : List ℕ → ℕ → List ℕ
undefined_in next zero = []
undefined_in next (suc n) = elim (eqb (get_or next n 0) undefined_mark) [ true ↦ n ∷ undefined_in next n | false ↦ undefined_in next n ]

-- the references refs are in the table
pub record Table (b keys at order : List ℕ) (refs : List Layer) : Type 0 where
  pub stand : AllStand b keys refs
  pub few : length keys ≤ most_references
  pub index : SomeNameIndex b at order
  pub below : (i : ℕ) → i < length order → get_or order i 0 < length refs
  pub named : AllNamed b refs at
  pub all : (e : ℕ) → e < length refs → is_alias (get_or refs e no_layer) ≡ true → any_of (eqb e) order ≡ true

-- some references are in it
pub record SomeTable (b keys at order : List ℕ) : Type 0 where
  pub refs : List Layer
  pub table : Table b keys at order refs
