-- Groups of aliases in a text whose manifest has no fault by question 7.
use Rattle.std.specs.Prelude.{ℕ, ◌≡◌, List, true, Option, Some}
use Rattle.text_content.specs.Value.{Value, Values, Fields, array, object}
use Rattle.text_view.specs.Place.{ValueAt}
use Rattle.manifest_entries.specs.Entries.{all_pass}
use Rattle.manifest_fields.specs.Members.{Finds}
use Rattle.manifest_fields.specs.FieldTests.{every_member, names_pass, is_object_of}
use Rattle.manifest_entries.specs.declared.entry.Entry.TheVariants.{Text}

-- a group that was looked for: missing, or an object of arrays of strings
pub record Grouped (s : List ℕ) (depth : ℕ) (found : Option ℕ) : Type 0 where
  pub value : Option Value
  pub finds : Finds s depth value found
  pub group : (v : Value) → value ≡ Some v → is_object_of names_pass v ≡ true

-- the group that was found
pub record AliasGroup (s : List ℕ) (at depth : ℕ) : Type 0 where
  pub fields : Fields
  pub here : ValueAt s at depth (object fields)
  pub strings : every_member names_pass fields ≡ true

-- one of its arrays
pub record AliasList (s : List ℕ) (at depth : ℕ) : Type 0 where
  pub values : Values
  pub here : ValueAt s at depth (array values)
  pub strings : all_pass Text true values ≡ true
