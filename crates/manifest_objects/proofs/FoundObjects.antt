-- What the walks require, and what they give, of the fields of a manifest that was opened. Assumes nothing.
use Rattle.std.specs.Prelude.{Option, Some, None}
use Prim.Native.Nat.{ℕ, ◌+◌, ◌-◌, ◌^◌, ◌≤◌, ◌<◌}
use mathlib.Core.Path.{◌≡◌, sym, ap, subst}
use mathlib.Core.List.{List, []}
use mathlib.Core.Bool.{true, false}
use native.Mathlib.Omega.{arith}
use lib.ListN.{length, take, drop, length-drop, length-map}
use lib.Seq.{length-take-le}
use Rattle.text_content.specs.Value.{Value, Fields, object}
use Rattle.text_view.specs.Place.{ValueAt, kind_of}
use Rattle.reference.specs.References.{layer}
use Rattle.manifest_fields.specs.Accessors.{field_of, contents_field, contents_of, texts}
use Rattle.manifest_fields.specs.FieldTests.{names_pass, found_entries, found_members}
use Rattle.manifest_fields.specs.Fields.{contents_name}
use Rattle.manifest_fields.specs.Members.{Finds}
use Rattle.manifest_fields.specs.declared.field.Field.TheVariants.{Layers}
use Rattle.manifest_fields.proofs.Founds.{missing_members}
use Rattle.manifest_repeat.specs.Names.{GroupFound}
use Rattle.manifest_repeat.proofs.Groups.{object_of, found_field_passes, found_group_passes, group_at, same_members}
use Rattle.manifest_names.proofs.Founds.{its_object}
use Rattle.manifest_strings.specs.Strings.{keys, found_strings, PlaceableFound, Placed}
use Rattle.manifest.specs.Manifest.{manifest_of, aliases_of, layers, contents}
use Rattle.manifest.specs.Names.{keys_of, objects}
use Rattle.manifest.specs.Opened.{Opens}
use Rattle.manifest.specs.Opened.{Places}
use Rattle.manifest.proofs.Groups.{contents_grouped, contents_space}
use Rattle.manifest.proofs.Limits.{layers_few}
use Rattle.manifest_aliases.proofs.Objects.{few_objects}
use Rattle.manifest.proofs.Opened.{layers_rule, layers_read}
use Rattle.manifest.proofs.Questions.{good}
use Rattle.manifest_objects.specs.Objects.{AllStand, Listed, none_listed}
use Rattle.manifest_objects.specs.Walks.{ListableGroup}
use Rattle.manifest_objects.proofs.Placing.{keys_layers, placed_stand}

-- A part of some bytes ends where it was cut.
pub part_end : (b : List ℕ) (start end : ℕ) → start ≤ end → end ≤ length b → start + length (take (end - start) (drop start b)) ≡ end
part_end b start end h l =
    let d = length-drop start b in
    omega (arith, length-take-le (end - start) (drop start b) (omega (arith, d)))

module _ (s : List ℕ) (p : Places) (o : Opens s p) where
  -- The keys of `contents` are the objects, and can be placed.
  pub placeable_objects : (start : ℕ) (positions : List ℕ) → 64 ≤ length positions → start + length s < 2 ^ 63
      → PlaceableFound s start 6 true p.contents positions
  unfolding objects contents_of contents_field kind_of
  placeable_objects start positions h l =
      let fs = found_members (contents_field (manifest_of s)) in
      let few : length (keys_of fs) ≤ 64 = few_objects s in
      record {
        value = contents_field (manifest_of s);
        finds = o.contents;
        strings = λ v e. ap kind_of (object_of names_pass v (found_group_passes (manifest_of s) (good s o.good).fields contents_name v e)).is;
        few = omega (arith, length-map (keys fs) layer, ap length (keys_layers fs));
        space = h;
        short = l;
      }

  -- Where they were placed stand the objects.
  pub objects_placed : {start r : ℕ} {before after : List ℕ}
      → ((v : Option Value) → Finds s 6 v p.contents → Placed s start before after r (found_strings true v))
      → (b : List ℕ) (m : ℕ) → s ≡ take m (drop start b) → (drop r after ≡ drop r before) × AllStand b (take r after) (objects s)
  unfolding objects contents_of
  objects_placed {start} f b m e =
      let v = contents_field (manifest_of s) in
      placed_stand b start m e (f v o.contents) (keys_layers (found_members v))

  -- The strings of `layers` can be placed.
  pub placeable_layers : (start : ℕ) (positions : List ℕ) → 64 ≤ length positions → start + length s < 2 ^ 63
      → PlaceableFound s start 7 false p.layers positions
  placeable_layers start positions h l =
      let r = (layers_read s o.good).is in
      record {
        value = field_of Layers (manifest_of s);
        finds = o.layers;
        strings = λ v e. layers_rule v (found_field_passes (manifest_of s) (good s o.good).fields Layers v e);
        few = omega (arith, length-map (texts (found_entries (field_of Layers (manifest_of s)))) layer, ap length r, layers_few s o.good);
        space = h;
        short = l;
      }

  -- Where they were placed stand the layers.
  pub layers_placed : {start r : ℕ} {before after : List ℕ}
      → ((v : Option Value) → Finds s 7 v p.layers → Placed s start before after r (found_strings false v))
      → (b : List ℕ) (m : ℕ) → s ≡ take m (drop start b) → (drop r after ≡ drop r before) × AllStand b (take r after) (layers s)
  layers_placed {start} f b m e = placed_stand b start m e (f (field_of Layers (manifest_of s)) o.layers) (sym (layers_read s o.good).is)

  -- Where `contents` is missing there are no aliases.
  pub nothing_listed : p.contents ≡ None → Listed s [] [] (contents s)
  unfolding contents contents_of aliases_of
  nothing_listed e =
      subst (Listed s [] []) (sym (ap aliases_of (missing_members s 6 p.contents (contents_field (manifest_of s)) o.contents e))) none_listed

  -- `contents` stands at a position
  module _ (at : ℕ) (e : p.contents ≡ Some at) where
    contents_here : ValueAt s at 6 (object (contents_of (manifest_of s)))
    unfolding contents_of
    contents_here = its_object s 6 p.contents (contents_grouped s p o) at e (contents_field (manifest_of s)) o.contents

    module _ (names owners : List ℕ) (h : 4096 ≤ length names) (k : 4096 ≤ length owners) where
      space : GroupFound s 6 p.contents names names
      space = (contents_space s p o names names (record { space = h; sorting = omega arith }) s (omega arith)).group

      -- Its aliases can be listed.
      pub listable_group : ListableGroup s at 6 names owners
      unfolding objects contents_of
      listable_group =
          record {
            group = group_at s 6 p.contents names names space at e;
            keys = ap keys_of (same_members s 6 p.contents names names space at e (contents_field (manifest_of s)) o.contents);
            space = k;
          }

    -- Its aliases are those of the manifest.
    pub contents_listed : {ks os : List ℕ} → ((fs : Fields) → ValueAt s at 6 (object fs) → Listed s ks os (aliases_of fs)) → Listed s ks os (contents s)
    unfolding contents
    contents_listed f = f (contents_of (manifest_of s)) contents_here
