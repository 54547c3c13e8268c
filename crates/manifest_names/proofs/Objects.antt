-- How far the members of a group were searched for the key of a name. Assumes nothing.
use Rattle.std.specs.Prelude.{None, Some}
use Prim.Native.Nat.{ℕ, ◌+◌, ◌≤◌}
use mathlib.Core.Path.{◌≡◌, refl, sym, ap, ◌∙◌}
use mathlib.Core.List.{List, [], ◌∷◌, ◌++◌}
use mathlib.Core.Bool.{Bool, true, false}
use native.Mathlib.Omega.{arith}
use Rattle.laws.specs.Order.{same}
use Rattle.laws.proofs.Order.{by_test, false_true}
use Rattle.text_content.specs.Value.{Value, Fields, no_fields, field, object}
use Rattle.text_view.specs.Place.{ValueAt, Readable}
use Rattle.text_view.specs.Cursor.{SomeObject, SomeMembers, MembersLeft, NextMember}
use Rattle.text_view.specs.declared.Members.{Members}
use Rattle.reference.specs.Matches.{is_one_of}
use Rattle.manifest_fields.specs.Accessors.{texts}
use Rattle.manifest_values.specs.Values.{entries}
use Rattle.manifest_fields.proofs.Finding.{one_object}
use Rattle.manifest_heads.specs.Contents.{Named, named_under, named_in, key_of, member_from}
use Rattle.manifest_names.specs.Objects.{KeyFound, FindsKey}

-- the key of a name among the aliases of one key and others
module _ (c k : List ℕ) (rest : List Named) where
  key_under : (ns : List (List ℕ)) → is_one_of c ns ≡ true → key_of c (named_under k ns ++ rest) ≡ Some k
  unfolding is_one_of key_of named_under
  key_under [] e = false_true e
  key_under (n ∷ ns) e = go (key_under ns)
    where
      go : (is_one_of c ns ≡ true → key_of c (named_under k ns ++ rest) ≡ Some k) → key_of c (named_under k (n ∷ ns) ++ rest) ≡ Some k
      go ih = by_test (same c n) (λ h. rw (h, key_of)) (λ h. rw (h, key_of) (ih (rw (h, is_one_of) at e)))

  key_further : (ns : List (List ℕ)) → is_one_of c ns ≡ false → key_of c (named_under k ns ++ rest) ≡ key_of c rest
  unfolding is_one_of key_of named_under
  key_further [] e = refl
  key_further (n ∷ ns) e = go (key_further ns)
    where
      go : (is_one_of c ns ≡ false → key_of c (named_under k ns ++ rest) ≡ key_of c rest) → key_of c (named_under k (n ∷ ns) ++ rest) ≡ key_of c rest
      go ih = by_test (same c n) (λ h. false_true (sym (rw (h, is_one_of) at e))) (λ h. rw (h, key_of) (ih (rw (h, is_one_of) at e)))

-- one step of both searches
module _ (c k : List ℕ) (v : Value) (fs : Fields) where
  -- A name that is one of the first member's strings has that member's key.
  pub key_here : is_one_of c (texts (entries v)) ≡ true → key_of c (named_in (field k v fs)) ≡ Some k
  unfolding named_in
  key_here e = key_under c k (named_in fs) (texts (entries v)) e

  -- A name that is none of them has the key, or none, that it has in the members after the first.
  pub key_later : is_one_of c (texts (entries v)) ≡ false → key_of c (named_in (field k v fs)) ≡ key_of c (named_in fs)
  unfolding named_in
  key_later e = key_further c k (named_in fs) (texts (entries v)) e

  member_here : (i : ℕ) → is_one_of c (texts (entries v)) ≡ true → member_from i c (field k v fs) ≡ Some i
  unfolding member_from
  member_here i e = rw (e, member_from)

  member_later : (i : ℕ) → is_one_of c (texts (entries v)) ≡ false → member_from i c (field k v fs) ≡ member_from (i + 1) c fs
  unfolding member_from
  member_later i e = rw (e, member_from)

-- Of the group at position `at`, i members were passed; the name has in the others, which stand before the cursor, the key that it has in the group.
pub record Passing (s : List ℕ) (at depth : ℕ) (c : List ℕ) (left : Members) (i : ℕ) : Type 0 where
  pub others : Fields
  pub here : MembersLeft s left others
  pub keys : (fs : Fields) → ValueAt s at depth (object fs) → key_of c (named_in fs) ≡ key_of c (named_in others)
  pub members : (fs : Fields) → ValueAt s at depth (object fs) → member_from 0 c fs ≡ member_from i c others
  pub space : i ≤ left.at

module _ (s : List ℕ) (at depth : ℕ) (c : List ℕ) where
  -- With all the group's members left, no member has been passed.
  pub started : (o : SomeObject s at depth) (left : Members) → MembersLeft s left o.fields → Passing s at depth c left 0
  started o left l =
      record {
        others = o.fields;
        here = l;
        keys = λ fs v. ap (λ (gs : Fields). key_of c (named_in gs)) (one_object s at depth fs o.fields v o.here);
        members = λ fs v. ap (member_from 0 c) (one_object s at depth fs o.fields v o.here);
        space = omega arith;
      }

  module _ (left : Members) (i : ℕ) (p : Passing s at depth c left i) where
    -- The cursor stands before a list of members, which may be empty.
    pub some_left : SomeMembers s left
    some_left = record { fields = p.others; left = p.here }

    -- no member is left
    pub no_key : p.others ≡ no_fields → (fs : Fields) → ValueAt s at depth (object fs) → FindsKey s fs c None
    unfolding key_of named_in
    no_key e fs v = p.keys fs v ∙ ap (λ (gs : Fields). key_of c (named_in gs)) e

    -- the next member
    module _ (k q : ℕ) (rest : Members) (x : NextMember s left p.others k q rest) where
      -- The next member's value can be read at its position.
      pub member_value : Readable s q left.depth
      member_value = record { value = x.first; here = x.here }

      module _ (r : Bool) (f : r ≡ is_one_of c (texts (entries x.first))) where
        -- If the name is one of the next member's strings, that member and its key are those of the name in the group.
        pub key_found : r ≡ true → (fs : Fields) → ValueAt s at depth (object fs) → KeyFound s fs c i k
        key_found e fs v =
            let h = sym f ∙ e in
            record {
              key = x.key;
              is = p.keys fs v ∙ ap (λ (gs : Fields). key_of c (named_in gs)) x.split ∙ key_here c x.key x.first x.others h;
              here = x.name;
              member = p.members fs v ∙ ap (member_from i c) x.split ∙ member_here c x.key x.first x.others i h;
            }

        -- If it is none of them, one more member is passed, and the name has in the others the key that it has in the group.
        pub goes_on : r ≡ false → Passing s at depth c rest (i + 1)
        goes_on e =
            let h = sym f ∙ e in
            record {
              others = x.others;
              here = x.left;
              keys = λ fs v. p.keys fs v ∙ ap (λ (gs : Fields). key_of c (named_in gs)) x.split ∙ key_later c x.key x.first x.others h;
              members = λ fs v. p.members fs v ∙ ap (member_from i c) x.split ∙ member_later c x.key x.first x.others i h;
              space = omega (arith, p.space, x.later);
            }

-- a missing group has no name
pub nothing_named : (fs : Fields) (c : List ℕ) → fs ≡ no_fields → key_of c (named_in fs) ≡ None
unfolding key_of named_in
nothing_named fs c e = ap (λ (gs : Fields). key_of c (named_in gs)) e
