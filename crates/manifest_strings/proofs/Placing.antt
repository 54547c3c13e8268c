-- How far the strings of an array, or the keys of an object, were placed. Assumes nothing.
use Prim.Native.Nat.{ℕ, ◌+◌, ◌-◌, ◌^◌, ◌≤◌, ◌<◌}
use mathlib.Core.Path.{◌≡◌, refl, sym, ap, subst, ◌∙◌}
use mathlib.Core.List.{List, [], ◌∷◌, ◌++◌, map-append, append_assoc, append-nil}
use mathlib.Core.Bool.{Bool, true, false}
use native.Mathlib.Omega.{arith}
use native.Mathlib.Numerals.{add-one}
use lib.ListN.{length, drop, set, length-set}
use lib.Seq.{take-suc-set, drop-set-lt, drop-drop}
use Rattle.text_content.specs.Value.{Value, content}
use Rattle.text_strings.specs.InString.{InString}
use Rattle.text_strings.proofs.Cursors.{inside_within}
use Rattle.text_view.specs.Place.{ValueAt, kind_of}
use Rattle.text_view.specs.Listed.{Tree, ListAt, SomeList, GivesItem}
use Rattle.text_view.specs.declared.value.Item.TheVariants.{End}
use Rattle.text_view.proofs.ByKind.{is_an_object, one_value}
use Rattle.text_view.proofs.Values.{open_kind, Opened, opened_kind}
use Rattle.manifest_entries.specs.Entries.{all_pass}
use Rattle.manifest_entries.specs.declared.entry.Entry.TheVariants.{Text}
use Rattle.manifest_values.specs.Values.{entries}
use Rattle.manifest_fields.proofs.Ruling.{array_of}
use Rattle.manifest_repeat.specs.Names.{no_names, name_at}
use Rattle.manifest_repeat.proofs.Repeating.{names_append}
use Rattle.manifest_strings.specs.Strings.{strings_of, HasStrings, Placeable, Placed}
use Rattle.manifest_strings.proofs.Items.{value_of, NextString, no_string}

-- At first nothing is placed.
pub placed_none : (s : List ℕ) (start : ℕ) (before : List ℕ) → Placed s start before before 0 []
placed_none s start before = record { marks = []; strings = no_names; first = refl; rest = refl }

-- One more string is placed, with its quotation mark at position q.
placed_more : (s : List ℕ) (start : ℕ) (before after : List ℕ) (n : ℕ) (cs : List (List ℕ)) → Placed s start before after n cs → n < length after
    → (q : ℕ) (c : List ℕ) → InString s (q + 1) c → Placed s start before (set after n (start + q + 1)) (n + 1) (cs ++ (c ∷ []))
placed_more s start before after n cs p h q c i =
    record {
      marks = p.marks ++ (q ∷ []);
      strings = names_append p.strings (name_at i no_names);
      first = rw (add-one n, take-suc-set after n (start + q + 1) h, map-append (λ (k : ℕ). start + k + 1) p.marks (q ∷ []), p.first);
      rest = drop-set-lt (n + 1) after n (start + q + 1) (omega arith)
          ∙ (sym (drop-drop 1 n after) ∙ ap (drop 1) p.rest ∙ drop-drop 1 n before);
    }

-- the kind of a value that has strings, and its entries
its_kind : (object : Bool) (v : Value) → HasStrings object v → kind_of v ≡ open_kind object
unfolding kind_of
its_kind false v h = ap kind_of (array_of Text v h).is
its_kind true v h = h

entries_pass : (object : Bool) (v : Value) → HasStrings object v → all_pass Text true (entries v) ≡ true
unfolding all_pass entries
entries_pass false v h = let a = array_of Text v h in ap (λ (w : Value). all_pass Text true (entries w)) a.is ∙ a.all
entries_pass true v h = ap (λ (w : Value). all_pass Text true (entries w)) (is_an_object v h).1

-- Of the value at position `at` the strings before the items from position `left` on were placed.
pub record StringsPlaced (s : List ℕ) (start at depth : ℕ) (object : Bool) (before after : List ℕ) (left n : ℕ) : Type 0 where
  pub others : List (Tree object)
  pub rest : List ℕ
  pub here : ListAt s left (depth - 1) object others rest
  pub first : Bool
  pub strings : all_pass Text first (entries (value_of object others)) ≡ true
  pub few : n + length (strings_of object (value_of object others)) ≤ 64
  pub length_kept : length after ≡ length before
  pub space : 64 ≤ length before
  pub short : start + length s < 2 ^ 63
  pub done : List (List ℕ)
  pub placed : Placed s start before after n done
  pub kept : (v : Value) → ValueAt s at depth v → done ++ strings_of object (value_of object others) ≡ strings_of object v

module _ {s : List ℕ} {start at depth : ℕ} {object : Bool} {before : List ℕ} where
  module _ (o : Placeable s start at depth object before) where
    -- The items stand behind the opening mark.
    pub items : Opened s at depth object o.here.tree o.here.rest
    items =
        let h = o.here in
        opened_kind s at depth h.tree h.rest h.derives object (ap kind_of h.means ∙ its_kind object o.value o.strings)

    all_items : o.value ≡ value_of object items.trees
    all_items = sym o.here.means ∙ ap content items.tree

    -- At the start no string was placed.
    pub started : StringsPlaced s start at depth object before before (at + 1) 0
    started =
        record {
          others = items.trees;
          rest = o.here.rest;
          here = items.items;
          first = true;
          strings = subst (λ (v : Value). all_pass Text true (entries v) ≡ true) all_items (entries_pass object o.value o.strings);
          few = omega (arith, o.few, ap (λ (v : Value). length (strings_of object v)) all_items);
          length_kept = refl;
          space = o.space;
          short = o.short;
          done = [];
          placed = placed_none s start before;
          kept = λ v h. ap (strings_of object) (sym all_items ∙ one_value s at depth o.value v o.here h);
        }

  module _ {after : List ℕ} {left n : ℕ} (p : StringsPlaced s start at depth object before after left n) where
    -- Items are left, or none.
    pub some_list : SomeList s left (depth - 1) object
    some_list = record { trees = p.others; rest = p.rest; here = p.here }

    -- Where the end mark was read, all strings were placed.
    pub finished : (e : ℕ) → GivesItem s left (depth - 1) object p.others p.rest (End e) → (v : Value) → ValueAt s at depth v
        → Placed s start before after n (strings_of object v)
    finished e g v h =
        let z = no_string s left (depth - 1) object p.others p.rest e g in
        subst (Placed s start before after n)
        (sym (append-nil p.done) ∙ ap (λ (cs : List (List ℕ)). p.done ++ cs) (sym z) ∙ p.kept v h)
        p.placed

    -- the next item
    module _ {q next : ℕ} (x : NextString s left (depth - 1) object p.others p.rest q next) where
      -- Its string stands in the text.
      pub string_within : q + 1 < length s
      string_within = inside_within s (q + 1) (record { bytes = x.first; here = x.begins })

      -- There is space for the position of the string.
      pub string_fits : n < length after
      string_fits = omega (arith, p.few, ap length x.split, p.length_kept, p.space)

      -- With the string placed the walk goes on.
      pub goes_on : StringsPlaced s start at depth object before (set after n (start + q + 1)) next (n + 1)
      goes_on =
          record {
            others = x.others;
            rest = p.rest;
            here = x.left;
            first = false;
            strings = x.strings;
            few = omega (arith, p.few, ap length x.split);
            length_kept = length-set after n (start + q + 1) ∙ p.length_kept;
            space = p.space;
            short = p.short;
            done = p.done ++ (x.first ∷ []);
            placed = placed_more s start before after n p.done p.placed string_fits q x.first x.begins;
            kept = λ v h.
                append_assoc p.done (x.first ∷ []) (strings_of object (value_of object x.others))
                ∙ ap (λ (cs : List (List ℕ)). p.done ++ cs) (sym x.split)
                ∙ p.kept v h;
          }
