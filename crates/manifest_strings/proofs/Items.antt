-- The next item of an array of strings or of an object begins with a string. Assumes nothing.
use Prim.Native.Nat.{ℕ, ◌+◌, ◌<◌, ◌≤◌}
use mathlib.Core.Path.{◌≡◌, refl}
use mathlib.Core.List.{List, [], ◌∷◌}
use mathlib.Core.Bool.{Bool, true, false}
use lib.ListN.{length}
use Rattle.text_json.specs.Syntax.{elements, members}
use Rattle.text_json.specs.Content.{unescape}
use Rattle.text_content.specs.Value.{Value, string, content, contents, fields}
use Rattle.text_strings.specs.InString.{InString}
use Rattle.text_view.specs.Place.{ValueAt}
use Rattle.text_view.specs.Listed.{Tree, ListAt, GivesItem}
use Rattle.text_view.specs.declared.value.Item.TheVariants.{At, End}
use Rattle.text_view.proofs.Strings.{string_value, member_key}
use Rattle.text_view.proofs.Values.{branch}
use Rattle.manifest_entries.specs.Entries.{all_pass}
use Rattle.manifest_entries.specs.declared.entry.Entry.TheVariants.{Text}
use Rattle.manifest_entries.proofs.Entries.{is_text}
use Rattle.manifest_values.specs.Values.{entries}
use Rattle.manifest_fields.specs.Accessors.{texts}
use Rattle.manifest_fields.specs.FieldTests.{members_of}
use Rattle.manifest_repeat.proofs.Collecting.{texts_more, pass_both}
use Rattle.manifest_strings.specs.Strings.{keys, strings_of}

-- the value of some items
abbrev pub value_of : (object : Bool) → List (Tree object) → Value
value_of object ts = content (branch object ts)

-- The first of the items ts begins at position p with a string, and the others stand from position n on.
pub record NextString (s : List ℕ) (at d : ℕ) (object : Bool) (ts : List (Tree object)) (r : List ℕ) (p n : ℕ) : Type 0 where
  pub first : List ℕ
  pub begins : InString s (p + 1) first
  pub others : List (Tree object)
  pub left : ListAt s n d object others r
  pub split : strings_of object (value_of object ts) ≡ first ∷ strings_of object (value_of object others)
  pub strings : all_pass Text false (entries (value_of object others)) ≡ true
  pub later : at < n
  pub within : n ≤ length s

module _ (s : List ℕ) (at d : ℕ) where
  -- Where an item was read of an array of strings or of an object, it begins with a string.
  pub next_string : (object : Bool) (ts : List (Tree object)) (r : List ℕ) (first : Bool) → all_pass Text first (entries (value_of object ts)) ≡ true
      → (p v n : ℕ) → GivesItem s at d object ts r (At p v n) → NextString s at d object ts r p n
  unfolding content contents fields elements members entries members_of keys all_pass
  next_string object [] r first a p v n g = absurd g
  next_string false (t ∷ ts) r first a p v n g =
      let both = pass_both (content t) (contents (elements ts)) first a in
      let c = is_text first (content t) both.0 in
      let here : ValueAt s p d (string c.0) = record { tree = t; rest = g.after; derives = g.derives; stops = g.stops; means = c.1 } in
      record {
        first = c.0;
        begins = (string_value s p c.0 d here).1;
        others = ts;
        left = g.others;
        split = texts_more (content t) (contents (elements ts)) c.0 c.1;
        strings = both.1;
        later = g.later;
        within = g.within;
      }
  next_string true (m ∷ ts) r first a p v n g =
      record {
        first = unescape m.key;
        begins = (member_key s p d m g.after g.derives).1;
        others = ts;
        left = g.others;
        split = refl;
        strings = refl;
        later = g.later;
        within = g.within;
      }

  -- Where the end mark was read no string is left.
  pub no_string : (object : Bool) (ts : List (Tree object)) (r : List ℕ) (e : ℕ) → GivesItem s at d object ts r (End e)
      → strings_of object (value_of object ts) ≡ []
  unfolding content contents fields elements members entries members_of keys texts
  no_string false [] r e g = refl
  no_string true [] r e g = refl
  no_string object (t ∷ ts) r e g = absurd g
