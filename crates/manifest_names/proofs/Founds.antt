-- A group that was looked for and is there, and one that is missing. Assumes nothing.
use Rattle.std.specs.Prelude.{Option, Some}
use Prim.Native.Nat.{ℕ}
use mathlib.Core.Path.{◌≡◌, sym, ap, subst, ◌∙◌}
use mathlib.Core.List.{List}
use mathlib.Core.Bool.{Bool, false}
use Rattle.text_content.specs.Value.{Value, Fields, no_fields, object}
use Rattle.text_view.specs.Place.{ValueAt}
use Rattle.text_view.specs.Cursor.{SomeObject}
use Rattle.text_view.proofs.ByKind.{one_value}
use Rattle.manifest_fields.specs.Members.{Finds}
use Rattle.manifest_fields.specs.FieldTests.{members_of, names_pass, found_members}
use Rattle.manifest_fields.proofs.Founds.{found_members_are}
use Rattle.manifest_fields.proofs.Ruling.{is_here, its_members}
use Rattle.manifest_repeat.specs.Names.{GroupFound}
use Rattle.manifest_repeat.proofs.Groups.{object_of}
use Rattle.laws.specs.Any.{any_of}
use Rattle.manifest_heads.specs.Contents.{Named, named_in}
use Rattle.manifest_names.specs.Groups.{Grouped, AliasGroup}

module _ (s : List ℕ) (depth : ℕ) (r : Option ℕ) (g : Grouped s depth r) (p : ℕ) (e : r ≡ Some p) where
  -- Where a group that was looked for is found at a position, an object of arrays of strings stands there.
  pub group_here : AliasGroup s p depth
  group_here =
      let k = is_here s depth g.value r g.finds p e in
      let m = object_of names_pass k.value (g.group k.value k.is) in
      record { fields = m.fields; here = subst (ValueAt s p depth) m.is k.at; strings = m.all }

  -- At that position stands an object.
  pub object_here : SomeObject s p depth
  object_here = record { fields = group_here.fields; here = group_here.here }

  -- its members are those of what was found
  pub its_object : (o : Option Value) → Finds s depth o r → ValueAt s p depth (object (found_members o))
  its_object o f =
      let k = is_here s depth o r f p e in
      let same_members : found_members o ≡ group_here.fields = found_members_are s depth r o f p e k.value k.is
      ∙ ap members_of (one_value s p depth k.value (object group_here.fields) k.at group_here.here)
      ∙ its_members group_here.fields in
      subst (λ (fs : Fields). ValueAt s p depth (object fs)) (sym same_members) group_here.here

-- A group with no members has no alias that passes a test.
pub none_tried : (g : Named → Bool) (fs : Fields) → fs ≡ no_fields → false ≡ any_of g (named_in fs)
unfolding any_of named_in
none_tried g fs e = rw e

-- A group that was looked for with space for its names is missing, or an object of arrays of strings.
pub found_grouped : {s : List ℕ} {depth : ℕ} {r : Option ℕ} {names spare : List ℕ} → GroupFound s depth r names spare → Grouped s depth r
found_grouped g = record { value = g.value; finds = g.finds; group = g.group }
