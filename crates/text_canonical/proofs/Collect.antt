-- How far the keys of an object are collected.
use Prim.Native.Nat.{ℕ, ◌+◌, ◌-◌, ◌<◌, ◌≤◌}
use mathlib.Core.Path.{◌≡◌, refl, sym, ap, ◌∙◌}
use mathlib.Core.List.{List, [], ◌∷◌, ◌++◌, append_assoc, append-nil}
use mathlib.Core.Bool.{true}
use native.Mathlib.Omega.{arith}
use native.Mathlib.Numerals.{add-one}
use lib.ListN.{length, take, drop, set, length-set, length-append}
use lib.Seq.{take-suc-set, take_at, length-take-le}
use Rattle.laws.specs.Sort.{sort}
use Rattle.text_json.specs.Syntax.{Member, members}
use Rattle.text_json.specs.Content.{unescape}
use Rattle.text_content.specs.Value.{Fields, object, content, fields}
use Rattle.text_content.specs.Canonical.{sorted_fields}
use Rattle.text_strings.specs.InString.{key_le}
use Rattle.text_keys.specs.Keys.{KeysAt, no_keys, key_at}
use Rattle.text_keys.proofs.Keys.{keys_append}
use Rattle.text_view.specs.Place.{ValueAt, kind_of}
use Rattle.text_view.specs.Listed.{ListAt, SomeList, FirstAt, GivesItem}
use Rattle.text_view.specs.declared.value.Item.TheVariants.{At, End}
use Rattle.text_view.proofs.Values.{Opened, opened_kind}
use Rattle.text_view.proofs.Items.{item_within}
use Rattle.text_canonical.specs.Members.{MemberAt, MembersAt, Collected, Sorted}
use Rattle.text_canonical.specs.Space.{KeysFit}
use Rattle.text_canonical.proofs.Forms.{count, keys_fit}
use Rattle.text_view.proofs.ByKind.{one_value}
use Rattle.text_canonical.proofs.Members.{member_key, members_sort, no_members_sort}

-- Of the object at position `at`, the first n keys are collected, and its other members stand from position i on.
pub record KeysGathered (s : List ℕ) (at depth : ℕ) (keys : List ℕ) (n i : ℕ) : Type 0 where
  pub all : Fields
  pub here : ValueAt s at depth (object all)
  pub some : 0 < depth
  pub trees : List Member
  pub rest : List ℕ
  pub left : ListAt s i (depth - 1) true trees rest
  pub space : n + count (fields (members trees)) ≤ length keys
  pub known : KeysAt s (take n keys)
  pub joins : (us : List ℕ) → MembersAt s (depth - 1) (sort (key_le s) us) (sorted_fields (fields (members trees)))
      → MembersAt s (depth - 1) (sort (key_le s) (take n keys ++ us)) (sorted_fields all)

-- Where an object stands, the depth is not 0, and its members stand after the opening brace.
pub object_opened : (s : List ℕ) (at depth : ℕ) (fs : Fields) (v : ValueAt s at depth (object fs)) → Opened s at depth true v.tree v.rest
unfolding kind_of
object_opened s at depth fs v = opened_kind s at depth v.tree v.rest v.derives true (ap kind_of v.means)

-- The members that stand there have the content of the object's members.
pub opened_fields : (s : List ℕ) (at depth : ℕ) (fs : Fields) (v : ValueAt s at depth (object fs))
    → fields (members (object_opened s at depth fs v).trees) ≡ fs
unfolding content
opened_fields s at depth fs v =
    let o = object_opened s at depth fs v in
    let e : object (fields (members o.trees)) ≡ object fs = ap content (sym o.tree) ∙ v.means in
    cc

-- Where the keys of an object fit, none is collected yet and all members stand from the position after the opening brace on.
pub started : (s : List ℕ) (at depth : ℕ) (keys : List ℕ) → KeysFit s at depth keys → KeysGathered s at depth keys 0 (at + 1)
started s at depth keys p =
    let o = object_opened s at depth p.fields p.here in
    let e = opened_fields s at depth p.fields p.here in
    record {
      all = p.fields;
      here = p.here;
      some = o.some;
      trees = o.trees;
      rest = p.here.rest;
      left = o.items;
      space = omega (arith, ap count e, keys_fit p.fields, p.enough);
      known = no_keys;
      joins = λ us h. rw e at h;
    }

module _ {s : List ℕ} {at depth : ℕ} {keys : List ℕ} {n i : ℕ} (p : KeysGathered s at depth keys n i) where
  -- From position `i` on stand members and the end mark of an object.
  pub items_left : SomeList s i (depth - 1) true
  items_left = record { trees = p.trees; rest = p.rest; here = p.left }

  -- the next member
  module _ (q v next : ℕ) where
    member : (m : Member) (ms : List Member) → FirstAt s i (depth - 1) true m ms p.rest q v next
        → MemberAt s q (depth - 1) (unescape m.key) (content m.value)
    member m ms f = record { tree = m; rest = f.after; derives = f.derives; stops = f.stops; key = refl; means = refl }

    -- The next member stands at a position within the text.
    pub position : (ms : List Member) → GivesItem s i (depth - 1) true ms p.rest (At q v next) → q < length s
    position [] g = absurd g
    position (m ∷ ms) g = item_within s q true (depth - 1) m g.after g.derives

    -- The position from which the other members stand is after `i` and within the text.
    pub later : (ms : List Member) → GivesItem s i (depth - 1) true ms p.rest (At q v next) → (i < next) × (next ≤ length s)
    later [] g = absurd g
    later (m ∷ ms) g = (g.later, g.within)

    key_space : (ms : List Member) → n + count (fields (members ms)) ≤ length keys → GivesItem s i (depth - 1) true ms p.rest (At q v next) → n < length keys
    unfolding members fields count
    key_space [] h g = absurd g
    key_space (m ∷ ms) h g = omega arith

    module _ (g : GivesItem s i (depth - 1) true p.trees p.rest (At q v next)) where
      -- Where another member is read, there is space for its key.
      pub fits : n < length keys
      fits = key_space p.trees p.space g

      stored : take (n + 1) (set keys n q) ≡ take n keys ++ (q ∷ [])
      stored = rw add-one (take-suc-set keys n q fits)

      -- With the member's position stored, one more key is collected, and the other members stand from position `next` on.
      pub collected : KeysGathered s at depth (set keys n q) (n + 1) next
      unfolding members fields count
      collected = go p.trees p.space p.joins g
        where
          go : (ms : List Member) → n + count (fields (members ms)) ≤ length keys
              → ((us : List ℕ) → MembersAt s (depth - 1) (sort (key_le s) us) (sorted_fields (fields (members ms)))
              → MembersAt s (depth - 1) (sort (key_le s) (take n keys ++ us)) (sorted_fields p.all))
              → GivesItem s i (depth - 1) true ms p.rest (At q v next) → KeysGathered s at depth (set keys n q) (n + 1) next
          go [] r j f = absurd f
          go (m ∷ ms) r j f =
              let k = unescape m.key in
              let x = content m.value in
              let h = member m ms f in
              record {
                all = p.all;
                here = p.here;
                some = p.some;
                trees = ms;
                rest = p.rest;
                left = f.others;
                space = omega (arith, length-set keys n q);
                known = rw stored (keys_append p.known (key_at (record { bytes = k; here = member_key s q (depth - 1) k x h }) no_keys));
                joins = λ us l. rw (stored, append_assoc (take n keys) (q ∷ []) us)
                    (j (q ∷ us) (members_sort s (depth - 1) q k x us (fields (members ms)) h l));
              }

  -- no member is left
  pub finished : (e : ℕ) → GivesItem s i (depth - 1) true p.trees p.rest (End e) → Collected s at depth (take n keys)
  unfolding members fields
  finished e g = record { keys = p.known; members = λ fs h. go p.trees p.joins g fs h }
    where
      go : (ms : List Member)
          → ((us : List ℕ) → MembersAt s (depth - 1) (sort (key_le s) us) (sorted_fields (fields (members ms)))
          → MembersAt s (depth - 1) (sort (key_le s) (take n keys ++ us)) (sorted_fields p.all))
          → GivesItem s i (depth - 1) true ms p.rest (End e) → (fs : Fields) → ValueAt s at depth (object fs)
          → MembersAt s (depth - 1) (sort (key_le s) (take n keys)) (sorted_fields fs)
      go (m ∷ ms) j f fs h = absurd f
      go [] j f fs h =
          let e : object p.all ≡ object fs = one_value s at depth _ _ p.here h in
          let same : p.all ≡ fs = cc in
          rw (← same, ← append-nil (take n keys)) (j [] (no_members_sort s (depth - 1)))

-- the collected keys, sorted, before what the list held past them
pub sorted : (s : List ℕ) (at depth n : ℕ) (keys xs : List ℕ) → n ≤ length keys → Collected s at depth (take n keys)
    → xs ≡ sort (key_le s) (take n keys) → length xs ≡ length (take n keys) → Sorted s at depth n (xs ++ drop n keys)
sorted s at depth n keys xs h c e l =
    let size : length xs ≡ n = l ∙ length-take-le n keys h in
    record {
      within = omega (arith, length-append xs (drop n keys));
      members = λ fs v. rw (take_at xs (drop n keys) n size, e) (c.members fs v);
    }
