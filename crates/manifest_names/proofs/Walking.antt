-- How far the strings of an array, and the aliases of a group, were tried by a test. What the test is asked against is given by an index, so that
-- one walk answers for everything that it stands for. Assumes nothing.
use Prim.Native.Nat.{ℕ, ◌+◌}
use mathlib.Core.Path.{◌≡◌, sym, ap, ◌∙◌}
use mathlib.Core.List.{List, [], ◌∷◌, ◌++◌}
use mathlib.Core.Bool.{Bool, true, false}
use Rattle.text_content.specs.Value.{Values, no_values, Fields, no_fields, array, object}
use Rattle.text_strings.specs.InString.{Inside, content_from}
use Rattle.text_view.specs.Place.{ValueAt}
use Rattle.text_view.specs.Cursor.{SomeElements, ElementsLeft, NextElement, SomeMembers, MembersLeft, NextMember}
use Rattle.text_view.specs.declared.Elements.{Elements}
use Rattle.text_view.specs.declared.Members.{Members}
use Rattle.manifest_fields.specs.Accessors.{texts}
use Rattle.manifest_entries.specs.Entries.{all_pass}
use Rattle.manifest_fields.specs.FieldTests.{every_member, names_pass}
use Rattle.manifest_entries.specs.declared.entry.Entry.TheVariants.{Text}
use Rattle.manifest_entries.proofs.Counting.{one_array}
use Rattle.manifest_fields.proofs.Finding.{one_object}
use Rattle.laws.specs.Any.{any_of}
use Rattle.manifest_heads.specs.Contents.{Named, named_under, named_in}
use Rattle.manifest_names.specs.Groups.{AliasGroup, AliasList}
use Rattle.laws.proofs.Any.{any_first, any_second}
use Rattle.manifest_names.proofs.Nexts.{NextString, next_string, NextAliases, next_aliases}

-- what passes a test: one of the items of a whole, or of what is left of it
module _ {I L A : Type 0} (g : I → A → Bool) (items : L → List A) (Whole : L → Type 0) where
  abbrev Kept : L → Type 0
  Kept others = (i : I) (xs : L) → Whole xs → any_of (g i) (items xs) ≡ any_of (g i) (items others)

  all_kept : (o : L) → ((xs : L) → Whole xs → xs ≡ o) → Kept o
  all_kept o e i xs w = ap (λ (ys : L). any_of (g i) (items ys)) (e xs w)

  none_passes : (o : L) → Kept o → items o ≡ [] → (i : I) (xs : L) → Whole xs → false ≡ any_of (g i) (items xs)
  unfolding any_of
  none_passes o k e i xs w = sym (k i xs w ∙ ap (any_of (g i)) e)

  -- what is left begins with the items `first`
  module _ (o rest : L) (first : List A) (k : Kept o) (split : items o ≡ first ++ items rest) (r : Bool) (f : (i : I) → any_of (g i) first ≡ r) where
    first_passes : r ≡ true → (i : I) (xs : L) → Whole xs → true ≡ any_of (g i) (items xs)
    first_passes e i xs w = sym (k i xs w ∙ ap (any_of (g i)) split ∙ any_first (g i) first (items rest) (f i ∙ e))

    rest_kept : r ≡ false → Kept rest
    rest_kept e i xs w = k i xs w ∙ ap (any_of (g i)) split ∙ any_second (g i) first (items rest) (f i ∙ e)

any_one : {A : Type 0} (p : A → Bool) (x : A) (r : Bool) → r ≡ p x → any_of p (x ∷ []) ≡ r
unfolding any_of
any_one p x true e = rw (← e)
any_one p x false e = rw (← e)

-- The elements `others` stand before the cursor, and one of their strings passes where one of the array's does.
pub record InTexts {I : Type 0} (g : I → List ℕ → Bool) (t : List ℕ) (at depth : ℕ) (left : Elements) : Type 0 where
  pub others : Values
  pub here : ElementsLeft t left others
  pub first : Bool
  pub strings : all_pass Text first others ≡ true
  pub kept : Kept g texts (λ (vs : Values). ValueAt t at depth (array vs)) others

module _ {I : Type 0} (g : I → List ℕ → Bool) (t : List ℕ) (at depth : ℕ) where
  -- With all the array's elements left, one of their strings passes exactly where one of the array's does.
  pub texts_started : AliasList t at depth → (left : Elements) → ((vs : Values) → ValueAt t at depth (array vs) → ElementsLeft t left vs)
      → InTexts g t at depth left
  texts_started o left l =
      let k = all_kept g texts _ o.values (λ vs v. one_array t at depth vs o.values v o.here) in
      record { others = o.values; here = l o.values o.here; first = true; strings = o.strings; kept = k }

  module _ (left : Elements) (p : InTexts g t at depth left) where
    -- The cursor stands before a list of elements, which may be empty.
    pub some_elements : SomeElements t left
    some_elements = record { values = p.others; left = p.here }

    -- no element is left
    pub not_in_texts : p.others ≡ no_values → (i : I) (vs : Values) → ValueAt t at depth (array vs) → false ≡ any_of (g i) (texts vs)
    unfolding texts
    not_in_texts e = none_passes g texts _ p.others p.kept (ap texts e)

    -- the next element
    module _ (q : ℕ) (rest : Elements) (x : NextElement t left p.others q rest) where
      text : NextString t p.others x.others q
      text = next_string t left p.others p.first p.strings q rest x

      -- The position after that of the next element stands in a string.
      pub text_inside : Inside t (q + 1)
      text_inside = text.inside

      module _ (r : Bool) (f : (i : I) → r ≡ g i (content_from t (q + 1))) where
        text_tried : (i : I) → any_of (g i) (content_from t (q + 1) ∷ []) ≡ r
        text_tried i = any_one (g i) (content_from t (q + 1)) r (f i)

        -- If the next string passes the test, one of the array's strings passes it.
        pub in_texts : r ≡ true → (i : I) (vs : Values) → ValueAt t at depth (array vs) → true ≡ any_of (g i) (texts vs)
        in_texts = first_passes g texts _ p.others x.others (content_from t (q + 1) ∷ []) p.kept text.split r text_tried

        -- If it does not, one of the strings after it passes exactly where one of the array's does.
        pub texts_go_on : r ≡ false → InTexts g t at depth rest
        texts_go_on e =
            let k = rest_kept g texts _ p.others x.others (content_from t (q + 1) ∷ []) p.kept text.split r text_tried e in
            record { others = x.others; here = x.left; first = false; strings = text.strings; kept = k }

-- The members `others` stand before the cursor, and one of their aliases passes where one of the group's does.
pub record InNamed {I : Type 0} (g : I → Named → Bool) (t : List ℕ) (at depth : ℕ) (left : Members) : Type 0 where
  pub others : Fields
  pub here : MembersLeft t left others
  pub strings : every_member names_pass others ≡ true
  pub kept : Kept g named_in (λ (fs : Fields). ValueAt t at depth (object fs)) others

module _ {I : Type 0} (g : I → Named → Bool) (t : List ℕ) (at depth : ℕ) where
  -- With all the group's members left, one of their aliases passes exactly where one of the group's does.
  pub named_started : AliasGroup t at depth → (left : Members) → ((fs : Fields) → ValueAt t at depth (object fs) → MembersLeft t left fs)
      → InNamed g t at depth left
  named_started o left l =
      let k = all_kept g named_in _ o.fields (λ fs v. one_object t at depth fs o.fields v o.here) in
      record { others = o.fields; here = l o.fields o.here; strings = o.strings; kept = k }

  module _ (left : Members) (p : InNamed g t at depth left) where
    -- The cursor stands before a list of members, which may be empty.
    pub some_members : SomeMembers t left
    some_members = record { fields = p.others; left = p.here }

    -- no member is left
    pub not_in_named : p.others ≡ no_fields → (i : I) (fs : Fields) → ValueAt t at depth (object fs) → false ≡ any_of (g i) (named_in fs)
    unfolding named_in
    not_in_named e = none_passes g named_in _ p.others p.kept (ap named_in e)

    -- the next member
    module _ (k q : ℕ) (rest : Members) (x : NextMember t left p.others k q rest) where
      aliases : NextAliases t p.others x.others k q left.depth
      aliases = next_aliases t left p.others p.strings k q rest x

      -- The next member's value is an array of strings.
      pub alias_list : AliasList t q left.depth
      alias_list = aliases.list

      -- The position after that of the next member's key stands in a string.
      pub key_inside : Inside t (k + 1)
      key_inside = aliases.key

      abbrev its_named : List Named
      its_named = named_under (content_from t (k + 1)) (texts aliases.list.values)

      module _ (r : Bool) (f : (i : I) (vs : Values) → ValueAt t q left.depth (array vs)
          → r ≡ any_of (g i) (named_under (content_from t (k + 1)) (texts vs))) where
        tried : (i : I) → any_of (g i) its_named ≡ r
        tried i = sym (f i aliases.list.values aliases.list.here)

        -- If one of the next member's aliases passes the test, one of the group's aliases passes it.
        pub in_named : r ≡ true → (i : I) (fs : Fields) → ValueAt t at depth (object fs) → true ≡ any_of (g i) (named_in fs)
        in_named = first_passes g named_in _ p.others x.others its_named p.kept aliases.split r tried

        -- If none of them does, one of the aliases after them passes exactly where one of the group's does.
        pub named_goes_on : r ≡ false → InNamed g t at depth rest
        named_goes_on e =
            let k = rest_kept g named_in _ p.others x.others its_named p.kept aliases.split r tried e in
            record { others = x.others; here = x.left; strings = aliases.strings; kept = k }
