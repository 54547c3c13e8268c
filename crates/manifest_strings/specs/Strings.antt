-- The strings of an array, or the keys of an object, and the positions where they begin.
use Rattle.std.specs.Prelude.{ℕ, ◌+◌, ◌^◌, ◌<◌, ◌≤◌, ◌≡◌, List, [], ◌∷◌, map, Bool, true, false, length, take, drop, Option, Some}
use Rattle.text_content.specs.Value.{Value, Fields, no_fields, field}
use Rattle.text_view.specs.Place.{ValueAt, kind_of}
use Rattle.text_view.specs.declared.Kind.TheVariants.{Object}
use Rattle.manifest_entries.specs.declared.entry.Entry.TheVariants.{Text}
use Rattle.manifest_values.specs.Values.{is_array_of, entries}
use Rattle.manifest_fields.specs.Accessors.{texts}
use Rattle.manifest_fields.specs.FieldTests.{members_of, found_entries, found_members}
use Rattle.manifest_fields.specs.Members.{Finds}
use Rattle.manifest_repeat.specs.Names.{NamesAt}

-- the keys of an object, in the text's order
unfoldable pub keys : Fields → List (List ℕ)
keys no_fields = []
keys (field k v fs) = k ∷ keys fs

-- the strings of an array or, where `object` is true, the keys of an object
abbrev pub strings_of : (object : Bool) → Value → List (List ℕ)
strings_of false v = texts (entries v)
strings_of true v = keys (members_of v)

-- those of a value that was looked for
abbrev pub found_strings : (object : Bool) → Option Value → List (List ℕ)
found_strings false o = texts (found_entries o)
found_strings true o = keys (found_members o)

-- an array of strings or, where `object` is true, an object
abbrev pub HasStrings : (object : Bool) → Value → Type 0
HasStrings false v = is_array_of Text v ≡ true
HasStrings true v = kind_of v ≡ Object

-- Such a value stands at position `at` of s and has at most 64 strings, and there is space for their positions in the bytes in which s stands from
-- `start` on.
pub record Placeable (s : List ℕ) (start at depth : ℕ) (object : Bool) (positions : List ℕ) : Type 0 where
  pub value : Value
  pub here : ValueAt s at depth value
  pub strings : HasStrings object value
  pub few : length (strings_of object value) ≤ 64
  pub space : 64 ≤ length positions
  pub short : start + length s < 2 ^ 63

-- what was looked for is missing, or such a value
pub record PlaceableFound (s : List ℕ) (start depth : ℕ) (object : Bool) (found : Option ℕ) (positions : List ℕ) : Type 0 where
  pub value : Option Value
  pub finds : Finds s depth value found
  pub strings : (v : Value) → value ≡ Some v → HasStrings object v
  pub few : length (found_strings object value) ≤ 64
  pub space : 64 ≤ length positions
  pub short : start + length s < 2 ^ 63

-- The strings cs have their quotation marks at the positions `marks` of s, and the first r of `after` are the positions behind these in the bytes in
-- which s stands from `start` on; the others are as they were.
pub record Placed (s : List ℕ) (start : ℕ) (before after : List ℕ) (r : ℕ) (cs : List (List ℕ)) : Type 0 where
  pub marks : List ℕ
  pub strings : NamesAt s marks cs
  pub first : take r after ≡ map (λ (k : ℕ). start + k + 1) marks
  pub rest : drop r after ≡ drop r before
