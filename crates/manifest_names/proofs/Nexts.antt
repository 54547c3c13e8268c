-- The next string of an array of strings, and the next member of a group of aliases, as a cursor gives them. Assumes nothing.
use Prim.Native.Nat.{ℕ, ◌+◌, ◌*◌, ◌≤◌}
use mathlib.Core.Path.{◌≡◌, sym, ap, subst, ◌∙◌}
use native.Mathlib.Omega.{arith}
use lib.ListN.{length}
use mathlib.Core.List.{List, ◌∷◌, ◌++◌}
use mathlib.Core.Bool.{Bool, true, false}
use Rattle.text_content.specs.Value.{Values, Fields}
use Rattle.text_strings.specs.InString.{Inside, content_from}
use Rattle.text_strings.proofs.Contents.{content_from_is}
use Rattle.text_view.specs.Place.{ValueAt}
use Rattle.text_view.specs.Cursor.{NextElement, NextMember}
use Rattle.text_view.specs.declared.Elements.{Elements}
use Rattle.text_view.specs.declared.Members.{Members}
use Rattle.text_view.proofs.Strings.{string_value}
use Rattle.manifest_fields.specs.Accessors.{texts}
use Rattle.manifest_entries.specs.Entries.{all_pass, count}
use Rattle.manifest_values.specs.Values.{is_array_of, entries}
use Rattle.manifest_fields.specs.FieldTests.{count_fields, every_member, names_pass}
use Rattle.manifest_entries.specs.declared.entry.Entry.TheVariants.{Text}
use Rattle.manifest_fields.proofs.Ruling.{array_of, its_entries}
use Rattle.manifest_entries.proofs.Entries.{is_text}
use Rattle.manifest_entries.proofs.Counting.{count_more as element_counted}
use Rattle.manifest_fields.proofs.Tallying.{count_more as member_counted}
use Rattle.manifest_repeat.proofs.Collecting.{texts_more, pass_both as element_passes}
use Rattle.manifest_repeat.proofs.Grouping.{few_entries, pass_both as found_member_passes}
use Rattle.manifest_heads.specs.Contents.{named_under, named_in}
use Rattle.manifest_repeat.specs.Names.{Collectable}
use Rattle.manifest_names.specs.Groups.{AliasList}

-- the first of the elements, a string, stands at position q, and the elements `more` come after it
pub record NextString (t : List ℕ) (others more : Values) (q : ℕ) : Type 0 where
  pub inside : Inside t (q + 1)
  pub split : texts others ≡ content_from t (q + 1) ∷ texts more
  pub strings : all_pass Text false more ≡ true
  pub counted : count others ≡ count more + 1

-- The next element of a list of strings is a string at its position, and the elements after it are strings, one fewer.
pub next_string : (t : List ℕ) (left : Elements) (others : Values) (first : Bool) → all_pass Text first others ≡ true
    → (q : ℕ) (rest : Elements) (x : NextElement t left others q rest) → NextString t others x.others q
next_string t left others first a q rest x =
    let both = element_passes x.first x.others first (ap (all_pass Text first) (sym x.split) ∙ a) in
    let c = is_text first x.first both.0 in
    let here = (string_value t q c.0 left.depth (subst (ValueAt t q left.depth) c.1 x.here)).1 in
    record {
      inside = record { bytes = c.0; here = here };
      split = ap texts x.split ∙ texts_more x.first x.others c.0 c.1
          ∙ ap (λ (d : List ℕ). d ∷ texts x.others) (sym (content_from_is t (q + 1) c.0 here));
      strings = both.1;
      counted = ap count x.split ∙ element_counted x.first x.others;
    }

-- the first of the members has its key at position k and its aliases at position q, and the members `more` come after it
pub record NextAliases (t : List ℕ) (others more : Fields) (k q depth : ℕ) : Type 0 where
  pub key : Inside t (k + 1)
  pub list : AliasList t q depth
  pub split : named_in others ≡ named_under (content_from t (k + 1)) (texts list.values) ++ named_in more
  pub strings : every_member names_pass more ≡ true
  pub few : count list.values ≤ 64
  pub counted : count_fields others ≡ count_fields more + 1

-- The next member of a group has a key and an array of at most 64 strings, and the members after it are a group, too.
pub next_aliases : (t : List ℕ) (left : Members) (others : Fields) → every_member names_pass others ≡ true
    → (k q : ℕ) (rest : Members) (x : NextMember t left others k q rest) → NextAliases t others x.others k q left.depth
unfolding named_in
next_aliases t left others a k q rest x =
    let both = found_member_passes x.key x.first x.others (ap (every_member names_pass) (sym x.split) ∙ a) in
    let passed = array_of Text x.first both.0 in
    record {
      key = record { bytes = x.key; here = x.name };
      list = record { values = passed.values; here = subst (ValueAt t q left.depth) passed.is x.here; strings = passed.all };
      split = ap named_in x.split
          ∙ ap (λ (c : List ℕ). named_under c (texts (entries x.first)) ++ named_in x.others) (sym (content_from_is t (k + 1) x.key x.name))
          ∙ ap (λ (vs : Values). named_under (content_from t (k + 1)) (texts vs) ++ named_in x.others) (ap entries passed.is ∙ its_entries passed.values);
      strings = both.1;
      few = few_entries passed.values (ap (is_array_of Text) (sym passed.is) ∙ both.0);
      counted = ap count_fields x.split ∙ member_counted x.key x.first x.others;
    }

-- The strings of the next member can be collected behind the first n names, where there is space for 64 of each member that is left.
pub next_collectable : {t : List ℕ} {others more : Fields} {k q depth : ℕ} → NextAliases t others more k q depth → (names : List ℕ) (n : ℕ)
    → n + 64 * count_fields others ≤ 4096 → 4096 ≤ length names → length t ≤ 65536 → Collectable t q depth names n
next_collectable a names n few space short =
    record {
      values = a.list.values;
      here = a.list.here;
      strings = a.list.strings;
      space = omega (arith, a.few, a.counted);
      short = short;
    }
