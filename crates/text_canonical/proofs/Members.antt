-- Members by the positions of their keys: sorting the keys sorts the members.
use Prim.Native.Nat.{ℕ, suc, ◌+◌}
use mathlib.Core.Path.{◌≡◌, refl, ap, ◌∙◌}
use mathlib.Core.List.{List, [], ◌∷◌}
use mathlib.Core.Bool.{Bool, true, false}
use lib.ListN.{length}
use Rattle.laws.specs.Order.{leq}
use Rattle.laws.specs.Sort.{insert, sort}
use Rattle.laws.proofs.Order.{by_test}
use Rattle.laws.proofs.Sort
use Rattle.text_content.specs.Value.{Value, Fields, no_fields, field}
use Rattle.text_content.specs.Canonical.{insert_field, sorted, sorted_fields}
use Rattle.text_content.proofs.Same
use Rattle.text_strings.specs.InString.{InString, content_from, key_le}
use Rattle.text_strings.proofs.Contents.{content_from_is}
use Rattle.text_view.specs.Place.{ValueAt}
use Rattle.text_view.specs.Listed.{ItemValue}
use Rattle.text_view.proofs.Strings
use Rattle.text_canonical.specs.Members.{MemberAt, MembersAt, no_members, member_at}
use Rattle.text_canonical.proofs.Forms.{count}

module _ (s : List ℕ) (p depth : ℕ) (k : List ℕ) (v : Value) (m : MemberAt s p depth k v) where
  -- From the position after the opening quotation mark on, a string has the content of the member's key.
  pub member_key : InString s (p + 1) k
  member_key = rw (← m.key) (Strings.member_key s p depth m.tree m.rest m.derives).1

  -- The content that is read from that position on is the member's key.
  pub member_content : content_from s (p + 1) ≡ k
  member_content = content_from_is s (p + 1) k member_key

  -- At the position of the member's value stands a value with the content `v`.
  pub member_value : (q : ℕ) → ItemValue s p true q → ValueAt s q depth v
  member_value q h =
      record { tree = m.tree.value; rest = m.rest; derives = h.value depth m.tree m.rest m.derives; stops = m.stops; means = m.means }

-- the order of two members' keys is that of their positions
key_order : (s : List ℕ) (depth p q : ℕ) (j k : List ℕ) (v w : Value) → MemberAt s p depth j v → MemberAt s q depth k w → key_le s p q ≡ leq j k
unfolding key_le
key_order s depth p q j k v w m n = rw (member_content s p depth j v m, member_content s q depth k w n)

members_insert : (s : List ℕ) (depth p : ℕ) (k : List ℕ) (v : Value) {ks : List ℕ} {fs : Fields} → MemberAt s p depth k v → MembersAt s depth ks fs
    → MembersAt s depth (insert (key_le s) p ks) (insert_field k (sorted v) fs)
unfolding insert insert_field
members_insert s depth p k v m no_members = member_at m no_members
members_insert s depth p k v m (member_at {p = q} {ks = ks} {k = j} {v = w} {fs = fs} n h) = go (members_insert s depth p k v m h)
  where
    same : (b : Bool) → leq k j ≡ b → key_le s p q ≡ b
    same b e = key_order s depth p q k j v w m n ∙ e

    go : MembersAt s depth (insert (key_le s) p ks) (insert_field k (sorted v) fs)
        → MembersAt s depth (insert (key_le s) p (q ∷ ks)) (insert_field k (sorted v) (field j (sorted w) fs))
    go ih =
        by_test (leq k j)
        (λ e. rw (Sort.insert_before (key_le s) p q ks (same true e), Same.insert_before k j (sorted v) (sorted w) fs e) (member_at m (member_at n h)))
        (λ e. rw (Sort.insert_after (key_le s) p q ks (same false e), Same.insert_after k j (sorted v) (sorted w) fs e) (member_at n ih))

-- one member more, before the others in the text
pub members_sort : (s : List ℕ) (depth p : ℕ) (k : List ℕ) (v : Value) (ks : List ℕ) (fs : Fields) → MemberAt s p depth k v
    → MembersAt s depth (sort (key_le s) ks) (sorted_fields fs) → MembersAt s depth (sort (key_le s) (p ∷ ks)) (sorted_fields (field k v fs))
unfolding sort sorted_fields
members_sort s depth p k v ks fs m h = members_insert s depth p k v m h

-- No positions, sorted, are those of no members.
pub no_members_sort : (s : List ℕ) (depth : ℕ) → MembersAt s depth (sort (key_le s) []) (sorted_fields no_fields)
unfolding sort sorted_fields
no_members_sort s depth = no_members

-- There are as many positions of keys as there are members.
pub members_count : {s : List ℕ} {depth : ℕ} {ks : List ℕ} {fs : Fields} → MembersAt s depth ks fs → length ks ≡ count fs
unfolding count
members_count no_members = refl
members_count (member_at m h) = ap suc (members_count h)
