-- The strings of a value that was looked for: those of the value that was found, or none. Assumes nothing.
use Rattle.std.specs.Prelude.{Option, None, Some}
use Prim.Native.Nat.{ℕ}
use mathlib.Core.Path.{◌≡◌, ap}
use mathlib.Core.List.{List, []}
use mathlib.Core.Bool.{Bool, true, false}
use native.Mathlib.Omega.{arith}
use lib.ListN.{length}
use Rattle.text_content.specs.Value.{Value}
use Rattle.text_view.specs.Place.{ValueAt}
use Rattle.manifest_fields.specs.Accessors.{texts}
use Rattle.manifest_fields.specs.FieldTests.{found_entries, found_members}
use Rattle.manifest_fields.specs.Members.{Finds}
use Rattle.manifest_fields.proofs.Ruling.{is_here, missing_none}
use Rattle.manifest_strings.specs.Strings.{keys, strings_of, found_strings, Placeable, PlaceableFound, Placed}
use Rattle.manifest_strings.proofs.Placing.{placed_none}

-- what was found, or is missing, by its strings
some_strings : (object : Bool) (o : Option Value) (v : Value) → o ≡ Some v → found_strings object o ≡ strings_of object v
unfolding found_entries found_members
some_strings false o v e = ap (found_strings false) e
some_strings true o v e = ap (found_strings true) e

no_strings : (object : Bool) (o : Option Value) → o ≡ None → found_strings object o ≡ []
unfolding found_entries found_members texts keys
no_strings false o e = ap (found_strings false) e
no_strings true o e = ap (found_strings true) e

-- a value that was looked for, whose strings can be placed
module _ {s : List ℕ} {start depth : ℕ} {object : Bool} {found : Option ℕ} {before : List ℕ} (p : PlaceableFound s start depth object found before) where
  -- Where it was found, they can be placed there.
  pub placeable : (at : ℕ) → found ≡ Some at → Placeable s start at depth object before
  placeable at e =
      let h = is_here s depth p.value found p.finds at e in
      record {
        value = h.value;
        here = h.at;
        strings = p.strings h.value h.is;
        few = omega (arith, p.few, ap length (some_strings object p.value h.value h.is));
        space = p.space;
        short = p.short;
      }

  -- What was placed there are the strings of what was looked for.
  pub found_placed : {after : List ℕ} {r : ℕ} (at : ℕ) → found ≡ Some at
      → ((v : Value) → ValueAt s at depth v → Placed s start before after r (strings_of object v))
      → (o : Option Value) → Finds s depth o found → Placed s start before after r (found_strings object o)
  found_placed at e f o g = let h = is_here s depth o found g at e in rw (some_strings object o h.value h.is) (f h.value h.at)

  -- Where it is missing, nothing is placed.
  pub none_placed : found ≡ None → (o : Option Value) → Finds s depth o found → Placed s start before before 0 (found_strings object o)
  none_placed e o g = rw (no_strings object o (missing_none s depth o found g e)) (placed_none s start before)
