-- The keys of an object that are given by the places of its members: sorted, they are in canonical order.
use Prim.Native.Nat.{ℕ, ◌-◌, ◌≤◌}
use mathlib.Core.Path.{◌≡◌, refl, sym, ap, subst, ◌∙◌}
use mathlib.Core.List.{List, []}
use lib.ListN.{length, take, drop}
use Rattle.laws.specs.Sort.{sort}
use Rattle.text_json.specs.Syntax.{Syntax, Member, object as tree, members}
use Rattle.text_json.specs.Grammar.{Word, Items, Listed, Pair, Value as Derives, Stops}
use Rattle.text_json.specs.Read.{found, read}
use Rattle.text_json.specs.Content.{unescape}
use Rattle.text_json.proofs.Grammar.Complete.{brace_closes, comma_stops, space_stops, read_complete}
use Rattle.text_content.specs.Value.{Fields, no_fields, object, content, fields}
use Rattle.text_content.specs.Canonical.{sorted_fields}
use Rattle.text_strings.specs.InString.{key_le}
use Rattle.text_keys.specs.Repeats.{Places, no_places, place_at}
use Rattle.text_keys.proofs.Members.{members_same}
use Rattle.text_view.specs.Place.{ValueAt}
use Rattle.text_canonical.specs.Members.{MemberAt, MembersAt, Sorted}
use Rattle.text_canonical.proofs.Members.{members_sort, no_members_sort}
use Rattle.text_canonical.proofs.Collect.{object_opened, opened_fields}

pair_place : {Value : List ℕ → Syntax → List ℕ → Type 0} {l r : List ℕ} {m : Member} → Pair Value l m r → m.place ≡ l
pair_place (Pair.pair p q h i j) = refl

module _ (s : List ℕ) (d : ℕ) where
  -- a member stands where its place says
  member_here : (k : ℕ) (m : Member) (l r : List ℕ) → Pair (Derives d) l m r → Stops r → m.place ≡ drop k s
      → MemberAt s k d (unescape m.key) (content m.value)
  member_here k m l r h t e =
      record { tree = m; rest = r; derives = subst (λ (x : List ℕ). Pair (Derives d) x m r) (sym (pair_place h) ∙ e) h; stops = t; key = refl; means = refl }

  items_sorted : {l r : List ℕ} {ms : List Member} {ks : List ℕ} → Items (Pair (Derives d)) 0x7D l ms r → Places s ms ks
      → MembersAt s d (sort (key_le s) ks) (sorted_fields (fields (members ms)))
  unfolding members fields
  items_sorted (Items.last {s = l} {s₁ = r} h q (Word.more e Word.end)) (place_at {m = m} {k = k} a b no_places) =
      members_sort s d k (unescape m.key) (content m.value) [] no_fields
      (member_here k m l r h (space_stops q (rw e (brace_closes.stops _))) a) (no_members_sort s d)
  items_sorted (Items.next {s = l} {s₁ = r} h q (Word.more e Word.end) i j) (place_at {m = m} {k = k} {ms = ms} {ks = ks} a b p) =
      members_sort s d k (unescape m.key) (content m.value) ks (fields (members ms))
      (member_here k m l r h (space_stops q (rw e (comma_stops _))) a) (items_sorted j p)

  list_sorted : {l r : List ℕ} {ms : List Member} {ks : List ℕ} → Listed (Pair (Derives d)) 0x7D l ms r → Places s ms ks
      → MembersAt s d (sort (key_le s) ks) (sorted_fields (fields (members ms)))
  unfolding members fields
  list_sorted (Listed.empty p q) no_places = no_members_sort s d
  list_sorted (Listed.items p q) h = items_sorted q h

-- of the object that is read at position `at`
pub given : (s : List ℕ) (at depth n : ℕ) (ms : List Member) (r ks keys : List ℕ) → read depth (drop at s) ≡ found (tree (members ms)) r
    → Places s ms ks → n ≤ length keys → take n keys ≡ sort (key_le s) ks → Sorted s at depth n keys
given s at depth n ms r ks keys e p w q = record { within = w; members = λ fs v. rw q (all fs v) }
  where
    all : (fs : Fields) → ValueAt s at depth (object fs) → MembersAt s (depth - 1) (sort (key_le s) ks) (sorted_fields fs)
    all fs v =
        let o = object_opened s at depth fs v in
        let c = read_complete depth (drop at s) v.tree v.rest v.derives v.stops in
        let f : found (tree (members ms)) r ≡ found (tree (members o.trees)) v.rest = sym e ∙ c ∙ ap (λ (t : Syntax). found t v.rest) o.tree in
        let g : members ms ≡ members o.trees = cc in
        let same : ms ≡ o.trees = members_same ms o.trees g in
        rw (← opened_fields s at depth fs v) (list_sorted s (depth - 1) o.items (subst (λ (l : List Member). Places s l ks) same p))
