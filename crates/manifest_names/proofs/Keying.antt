-- How far the aliases of a group were collected with their keys. Assumes nothing.
use Prim.Native.Nat.{ℕ, ◌+◌, ◌*◌, ◌≤◌, ◌<◌}
use mathlib.Core.Path.{◌≡◌, refl, sym, ap, subst, ◌∙◌}
use mathlib.Core.List.{List, [], ◌∷◌, ◌++◌, append_assoc, append-nil}
use mathlib.Core.Bool.{Bool, true, false}
use native.Mathlib.Omega.{arith}
use native.Mathlib.Numerals.{add-one}
use borrow.Author.Tests.{eqb-true, eqb-false}
use lib.Dec.{eqb}
use lib.ListN.{length, take, get_or, set, length-set}
use lib.Seq.{take-suc-set, get_or-set_same, get_or-set_other}
use Rattle.laws.specs.Sort.{sort}
use Rattle.laws.proofs.Order.{by_test}
use Rattle.text_content.specs.Value.{Values, no_values, Fields, no_fields, array, object}
use Rattle.text_strings.specs.InString.{InString, Inside, content_from}
use Rattle.text_strings.proofs.Contents.{content_from_is, inside_content}
use Rattle.text_strings.proofs.Cursors.{inside_within}
use Rattle.text_view.specs.Place.{ValueAt}
use Rattle.text_view.specs.Cursor.{SomeArray, SomeElements, ElementsLeft, NextElement, SomeObject, SomeMembers, MembersLeft, NextMember}
use Rattle.text_view.specs.declared.Elements.{Elements}
use Rattle.text_view.specs.declared.Members.{Members}
use Rattle.text_keys.specs.Keys.{KeysAt, no_keys, key_at}
use Rattle.manifest_fields.specs.Accessors.{texts}
use Rattle.manifest_entries.specs.Entries.{all_pass, count}
use Rattle.manifest_fields.specs.FieldTests.{count_fields, every_member, names_pass}
use Rattle.manifest_entries.specs.declared.entry.Entry.TheVariants.{Text}
use Rattle.manifest_entries.proofs.Counting.{one_array}
use Rattle.manifest_fields.proofs.Finding.{one_object}
use Rattle.laws.specs.Any.{any_of}
use Rattle.manifest_heads.specs.Contents.{Named, named_under, named_in, is_elsewhere, stands_elsewhere, conflict}
use Rattle.manifest_names.specs.Keyed.{Keyable, AddsKeyed, KeyableGroup}
use Rattle.manifest_heads.specs.Placed.{Placed, no_place, placed, KeyedAt, SortedContents}
use Rattle.laws.proofs.Any.{or_none}
use Rattle.manifest_names.proofs.Elsewhere.{under_key, none_elsewhere}
use Rattle.manifest_names.proofs.Nexts.{NextString, next_string, NextAliases, next_aliases, next_collectable}
use Rattle.manifest_repeat.proofs.Sorting.{SortedFront}

placed_append : {A : Type 0} {Here : ℕ → A → Type 0} {ks ls : List ℕ} {xs ys : List A} → Placed Here ks xs → Placed Here ls ys
    → Placed Here (ks ++ ls) (xs ++ ys)
placed_append no_place m = m
placed_append (placed h n) m = placed h (placed_append n m)

-- Each position at which an alias stands with its key is the place of a string.
pub placed_keys : {s keys ks : List ℕ} {xs : List Named} → Placed (KeyedAt s keys) ks xs → KeysAt s ks
placed_keys no_place = no_keys
placed_keys (placed h r) = key_at (record { bytes = _; here = h.name }) (placed_keys r)

under_more : (k n : List ℕ) (ns : List (List ℕ)) → named_under k (n ∷ ns) ≡ (record { name = n; key = k } ∷ []) ++ named_under k ns
unfolding named_under
under_more k n ns = refl

-- The alias at position p gets the key at position q. An alias that was there before keeps its key, unless it has this name under another key.
module _ (s keys : List ℕ) (p q : ℕ) (here : Inside s (p + 1)) (key : Inside s (q + 1)) (space : p < length keys) where
  abbrev n : List ℕ
  n = content_from s (p + 1)

  abbrev k : List ℕ
  k = content_from s (q + 1)

  new_key : KeyedAt s (set keys p q) p (record { name = n; key = k })
  new_key =
      record {
        name = inside_content s (p + 1) here;
        key = rw (get_or-set_same keys p q 0 space) (inside_content s (q + 1) key);
      }

  kept_at : (l : ℕ) (a : Named) → KeyedAt s keys l a → is_elsewhere n k a ≡ false → KeyedAt s (set keys p q) l a
  kept_at l a h e = by_test (eqb l p) (λ z. overwritten (eqb-true l p z)) (λ z. untouched (eqb-false l p z))
    where
      overwritten : l ≡ p → KeyedAt s (set keys p q) l a
      overwritten z =
          let one : n ≡ a.name = content_from_is s (p + 1) a.name (subst (λ (x : ℕ). InString s (x + 1) a.name) z h.name) in
          let under : k ≡ a.key = under_key n k a one e in
          record {
            name = h.name;
            key = subst (λ (x : ℕ). InString s (x + 1) a.key) (sym (ap (λ (x : ℕ). get_or (set keys p q) x 0) z ∙ get_or-set_same keys p q 0 space))
                (subst (InString s (q + 1)) under (inside_content s (q + 1) key));
          }

      untouched : (l ≡ p → ⊥) → KeyedAt s (set keys p q) l a
      untouched z = record { name = h.name; key = subst (λ (x : ℕ). InString s (x + 1) a.key) (sym (get_or-set_other keys p l q 0 z)) h.key }

  kept : {ls : List ℕ} {xs : List Named} → Placed (KeyedAt s keys) ls xs → stands_elsewhere n k xs ≡ false → Placed (KeyedAt s (set keys p q)) ls xs
  unfolding stands_elsewhere any_of
  kept no_place e = no_place
  kept (placed {k = l} {x = a} {xs = xs} h r) e =
      let b = or_none (is_elsewhere n k a) (any_of (is_elsewhere n k) xs) e in
      placed (kept_at l a h b.0) (kept r b.1)

  -- The alias is added with its key and the aliases before it keep theirs, if its name stands under no other key among them.
  pub added : {ls : List ℕ} {xs : List Named} → Placed (KeyedAt s keys) ls xs → stands_elsewhere n k xs ≡ false
      → Placed (KeyedAt s (set keys p q)) (ls ++ (p ∷ [])) (xs ++ (record { name = n; key = k } ∷ []))
  added r e = placed_append (kept r e) (placed new_key no_place)

-- Of the array at position `at`, whose key stands at position q, the strings before the cursor were added behind the first n of the list that was `before`.
pub record UnderKey (s : List ℕ) (at depth q : ℕ) (before : List ℕ) (n : ℕ) (keys₀ names keys : List ℕ) (left : Elements) (i : ℕ) : Type 0 where
  pub others : Values
  pub here : ElementsLeft s left others
  pub first : Bool
  pub strings : all_pass Text first others ≡ true
  pub space : i + count others ≤ length names
  pub size : length names ≡ length before
  pub long : length s ≤ length keys₀
  pub key_size : length keys ≡ length keys₀
  pub key : Inside s (q + 1)
  pub number : (vs : Values) → ValueAt s at depth (array vs) → i + count others ≡ n + count vs
  pub adds : (vs : Values) → ValueAt s at depth (array vs) → (xs rest : List Named) → Placed (KeyedAt s keys₀) (take n before) xs
      → let all = xs ++ (named_under (content_from s (q + 1)) (texts vs) ++ rest) in conflict all all ≡ false
      → (ys : List Named) × Placed (KeyedAt s keys) (take i names) ys
      × (ys ++ named_under (content_from s (q + 1)) (texts others) ≡ xs ++ named_under (content_from s (q + 1)) (texts vs))

module _ (s : List ℕ) (at depth q : ℕ) (before : List ℕ) (n : ℕ) (keys₀ : List ℕ) where
  abbrev key_of : List ℕ
  key_of = content_from s (q + 1)

  -- At the position of strings that can be collected with their key stands an array.
  pub under_array : Keyable s at depth q before n keys₀ → SomeArray s at depth
  under_array o = record { values = o.list.values; here = o.list.here }

  -- With all the array's elements left and both lists unchanged, no string has been added behind the first `n`.
  pub under_started : (o : Keyable s at depth q before n keys₀) (left : Elements) → ElementsLeft s left o.list.values
      → UnderKey s at depth q before n keys₀ before keys₀ left n
  under_started o left l =
      record {
        others = o.list.values;
        here = l;
        first = true;
        strings = o.list.strings;
        space = o.list.space;
        size = refl;
        long = o.long;
        key_size = refl;
        key = o.key;
        number = λ vs v. omega (arith, ap count (one_array s at depth o.list.values vs o.list.here v));
        adds = λ vs v xs rest m z. (
          xs,
          m,
          ap (λ (ws : Values). xs
              ++ named_under key_of (texts ws)) (one_array s at depth o.list.values vs o.list.here v),
        );
      }

  module _ (names keys : List ℕ) (left : Elements) (i : ℕ) (p : UnderKey s at depth q before n keys₀ names keys left i) where
    -- The cursor stands before a list of elements, which may be empty.
    pub under_left : SomeElements s left
    under_left = record { values = p.others; left = p.here }

    -- no element is left
    pub under_finished : p.others ≡ no_values → (vs : Values) → ValueAt s at depth (array vs) → AddsKeyed s key_of vs before n keys₀ names keys i
    unfolding count texts named_under
    under_finished e vs v = (
      omega (arith, p.number vs v, ap count e),
      λ xs rest m z. let r = p.adds vs v xs rest m z in
          subst (Placed (KeyedAt s keys) (take i names))
          (sym (append-nil r.0) ∙ ap (λ (ws : Values). r.0 ++ named_under key_of (texts ws)) (sym e) ∙ r.2)
          r.1,
    )

    -- the next element
    module _ (g : ℕ) (rest : Elements) (x : NextElement s left p.others g rest) where
      text : NextString s p.others x.others g
      text = next_string s left p.others p.first p.strings g rest x

      -- The position after that of the next string lies in the text.
      pub place_within : g + 1 < length s
      place_within = inside_within s (g + 1) text.inside

      -- The position after that of the key lies in the text.
      pub key_within : q + 1 < length s
      key_within = inside_within s (q + 1) p.key

      -- The position of the next string is an index of `keys`.
      pub place_space : g < length keys
      place_space = omega (arith, place_within, p.long, p.key_size)

      -- The list of names has space for one more position.
      pub place_fits : i < length names
      place_fits = omega (arith, p.space, text.counted)

      abbrev alias : Named
      alias = record { name = content_from s (g + 1); key = key_of }

      split_under : named_under key_of (texts p.others) ≡ (alias ∷ []) ++ named_under key_of (texts x.others)
      split_under = ap (named_under key_of) text.split ∙ under_more key_of (content_from s (g + 1)) (texts x.others)

      -- what was added is settled with what is to come
      settled : (xs ys zs more : List Named) → ys ++ named_under key_of (texts p.others) ≡ xs ++ zs
          → conflict (xs ++ (zs ++ more)) (xs ++ (zs ++ more)) ≡ false → stands_elsewhere (content_from s (g + 1)) key_of ys ≡ false
      settled xs ys zs more e c =
          let f : xs ++ (zs ++ more) ≡ ys ++ (alias ∷ (named_under key_of (texts x.others) ++ more)) =
          sym (append_assoc xs zs more) ∙ ap (λ (l : List Named). l ++ more) (sym e)
          ∙ append_assoc ys (named_under key_of (texts p.others)) more
          ∙ ap (λ (l : List Named). ys ++ (l ++ more)) split_under in
          none_elsewhere ys alias (named_under key_of (texts x.others) ++ more) (subst (λ (l : List Named). conflict l l ≡ false) f c)

      -- When the positions of the next string and of its key are written, one more string has been added.
      pub under_goes_on : UnderKey s at depth q before n keys₀ (set names i g) (set keys g q) rest (i + 1)
      under_goes_on =
          record {
            others = x.others;
            here = x.left;
            first = false;
            strings = text.strings;
            space = omega (arith, p.space, text.counted, length-set names i g);
            size = length-set names i g ∙ p.size;
            long = p.long;
            key_size = length-set keys g q ∙ p.key_size;
            key = p.key;
            number = λ vs v. omega (arith, p.number vs v, text.counted);
            adds = λ vs v xs more m z. let r = p.adds vs v xs more m z in (
              r.0 ++ (alias ∷ []),
              rw (add-one i, take-suc-set names i g place_fits)
                  (added s keys g q text.inside p.key place_space r.1 (settled xs r.0 (named_under key_of (texts vs)) more r.2 z)),
              append_assoc r.0 (alias ∷ []) (named_under key_of (texts x.others)) ∙ ap (λ (l : List Named). r.0 ++ l) (sym split_under) ∙ r.2,
            );
          }

-- Of the group at position `at`, n aliases were collected with their keys, and the other members stand before the cursor.
pub record WithKeys (s : List ℕ) (at depth : ℕ) (before keys₀ names keys : List ℕ) (left : Members) (n : ℕ) : Type 0 where
  pub others : Fields
  pub here : MembersLeft s left others
  pub strings : every_member names_pass others ≡ true
  pub space : n + 64 * count_fields others ≤ 4096
  pub size : length names ≡ length before
  pub enough : 4096 ≤ length before
  pub short : length s ≤ 65536
  pub long : length s ≤ length keys₀
  pub key_size : length keys ≡ length keys₀
  pub so_far : (fs : Fields) → ValueAt s at depth (object fs) → conflict (named_in fs) (named_in fs) ≡ false
      → (ys : List Named) × Placed (KeyedAt s keys) (take n names) ys × (ys ++ named_in others ≡ named_in fs)

module _ (s : List ℕ) (at depth : ℕ) (before keys₀ : List ℕ) where
  -- At the position of a group that can be collected with its keys stands an object.
  pub keyable_object : KeyableGroup s at depth before keys₀ → SomeObject s at depth
  keyable_object o = record { fields = o.group.fields; here = o.group.here }

  -- With all the group's members left and both lists unchanged, no alias has been collected.
  pub with_started : (o : KeyableGroup s at depth before keys₀) (left : Members) → MembersLeft s left o.group.fields
      → WithKeys s at depth before keys₀ before keys₀ left 0
  with_started o left l =
      record {
        others = o.group.fields;
        here = l;
        strings = o.group.strings;
        space = omega (arith, o.group.few);
        size = refl;
        enough = o.group.space;
        short = o.group.short;
        long = o.long;
        key_size = refl;
        so_far = λ fs v z. ([], no_place, ap named_in (one_object s at depth o.group.fields fs o.group.here v));
      }

  module _ (names keys : List ℕ) (left : Members) (n : ℕ) (p : WithKeys s at depth before keys₀ names keys left n) where
    -- The cursor stands before a list of members, which may be empty.
    pub with_left : SomeMembers s left
    with_left = record { fields = p.others; left = p.here }

    -- The number of collected aliases is at most the length of the list of names.
    pub with_within : n ≤ length names
    with_within = omega (arith, p.space, p.size, p.enough)

    -- no member is left
    pub with_finished : p.others ≡ no_fields → (fs : Fields) → ValueAt s at depth (object fs) → conflict (named_in fs) (named_in fs) ≡ false
        → Placed (KeyedAt s keys) (take n names) (named_in fs)
    unfolding named_in
    with_finished e fs v z =
        let r = p.so_far fs v z in
        subst (Placed (KeyedAt s keys) (take n names)) (sym (append-nil r.0) ∙ ap (λ (gs : Fields). r.0 ++ named_in gs) (sym e) ∙ r.2) r.1

    -- the next member
    module _ (k q : ℕ) (rest : Members) (x : NextMember s left p.others k q rest) where
      aliases : NextAliases s p.others x.others k q left.depth
      aliases = next_aliases s left p.others p.strings k q rest x

      -- The next member's value is an array of strings, and there is space to collect them with the member's key.
      pub keyable : Keyable s q left.depth k names n keys
      keyable =
          record {
            list = next_collectable aliases names n p.space (omega (arith, p.size, p.enough)) p.short;
            key = aliases.key;
            long = omega (arith, p.long, p.key_size);
          }

      -- If the next member's aliases are added in lists of the same lengths, they are collected, and the members after it are left.
      pub with_goes_on : (names₁ keys₁ : List ℕ) (r : ℕ) → length names₁ ≡ length names → length keys₁ ≡ length keys
          → ((vs : Values) → ValueAt s q left.depth (array vs) → AddsKeyed s (content_from s (k + 1)) vs names n keys names₁ keys₁ r)
          → WithKeys s at depth before keys₀ names₁ keys₁ rest r
      with_goes_on names₁ keys₁ r l m f =
          let a = f aliases.list.values aliases.list.here in
          record {
            others = x.others;
            here = x.left;
            strings = aliases.strings;
            space = omega (arith, a.0, aliases.few, aliases.counted, p.space);
            size = l ∙ p.size;
            enough = p.enough;
            short = p.short;
            long = p.long;
            key_size = m ∙ p.key_size;
            so_far = λ fs v z. let y = p.so_far fs v z in
                let under = named_under (content_from s (k + 1)) (texts aliases.list.values) in
                let e : y.0 ++ (under ++ named_in x.others) ≡ named_in fs = ap (λ (l : List Named). y.0 ++ l) (sym aliases.split) ∙ y.2 in (
                  y.0 ++ under,
                  a.1 y.0 (named_in x.others) y.1 (subst (λ (l : List Named). conflict l l ≡ false) (sym e) z),
                  append_assoc y.0 under (named_in x.others) ∙ e,
                );
          }

-- a missing group has no aliases, and those of a group are sorted
pub no_contents : (s keys : List ℕ) (fs : Fields) → length s ≤ length keys → fs ≡ no_fields → SortedContents s (named_in fs) keys []
unfolding named_in conflict any_of sort
no_contents s keys fs l e = rw e (record { places = []; here = no_place; sorted = refl; settled = refl; long = l })

-- Where the first positions were sorted and are those of aliases with no name under two keys, they are sorted aliases.
pub contents_sorted : {s keys before after : List ℕ} {n : ℕ} {xs : List Named} → SortedFront s before n after → Placed (KeyedAt s keys) (take n before) xs
    → conflict xs xs ≡ false → length s ≤ length keys → SortedContents s xs keys (take n after)
contents_sorted {before} {n} f m z l = record { places = take n before; here = m; sorted = f.sorted; settled = z; long = l }
