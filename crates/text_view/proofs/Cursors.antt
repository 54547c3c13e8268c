-- What the cursors give.
use Prim.Native.Nat.{ℕ, ◌+◌, ◌-◌, ◌<◌}
use lib.ListN.{drop}
use mathlib.Core.Path.{◌≡◌, refl, ap}
use mathlib.Core.List.{List, [], ◌∷◌}
use Rattle.std.specs.Prelude.{Some, None}
use mathlib.Core.Bool.{Bool, true, false}
use native.Mathlib.Omega.{arith}
use Rattle.text_json.specs.Syntax.{Syntax, elements, members, Member as MemberTree}
use Rattle.text_json.specs.Content.{unescape}
use Rattle.text_content.specs.Value.{Values, no_values, Fields, no_fields, array, object, content, contents, fields}
use Rattle.text_view.specs.Place.{ValueAt, EndsAt, kind_of}
use Rattle.text_view.specs.Listed.{Tree, ListAt, ListEndsAt, GivesItem, Peeks}
use Rattle.text_view.specs.Cursor.{ElementsLeft, GivesElement, MembersLeft, GivesMember, GivesHead}
use Rattle.text_view.specs.declared.value.Item.TheVariants.{At, End}
use Rattle.text_view.specs.declared.Elements.{Elements}
use Rattle.text_view.specs.declared.Members.{Members}
use Rattle.text_view.proofs.Values.{opened_kind, kind_at_is}
use Rattle.text_view.proofs.Steps.{kind_ends}
use Rattle.text_view.proofs.Strings.{member_key}

-- the elements of an array, and the members of an object
module _ (s : List ℕ) (at d : ℕ) where
  -- Where an array stands the depth is above 0, and its elements stand before the cursor after its opening mark.
  pub array_elements : (vs : Values) → ValueAt s at d (array vs) → (0 < d) × ElementsLeft s (record { at = at + 1; depth = d - 1 }) vs
  unfolding kind_of content
  array_elements vs v =
      let o = opened_kind s at d v.tree v.rest v.derives false (ap kind_of v.means) in
      let e : contents (elements o.trees) ≡ vs = cc (ap content o.tree, v.means) in
      (o.some, record { trees = o.trees; rest = v.rest; derives = o.items; means = e })

  -- Where an object stands the depth is above 0, and its members stand before the cursor after its opening mark.
  pub object_members : (fs : Fields) → ValueAt s at d (object fs) → (0 < d) × MembersLeft s (record { at = at + 1; depth = d - 1 }) fs
  unfolding kind_of content
  object_members fs v =
      let o = opened_kind s at d v.tree v.rest v.derives true (ap kind_of v.means) in
      let e : fields (members o.trees) ≡ fs = cc (ap content o.tree, v.means) in
      (o.some, record { trees = o.trees; rest = v.rest; derives = o.items; means = e })

  -- An array ends where its elements end, and an object where its members end.
  pub array_ends : (vs : Values) → ValueAt s at d (array vs) → (e : ℕ) → ListEndsAt s (at + 1) (d - 1) false e → EndsAt s at d e
  unfolding kind_of
  array_ends vs v e l = kind_ends s at d false (kind_at_is s at d (array vs) v) e l

  -- An object ends where its members, which stand after its opening mark, end.
  pub object_ends : (fs : Fields) → ValueAt s at d (object fs) → (e : ℕ) → ListEndsAt s (at + 1) (d - 1) true e → EndsAt s at d e
  unfolding kind_of
  object_ends fs v e l = kind_ends s at d true (kind_at_is s at d (object fs) v) e l

-- After the first of some items the list ends where it did.
module _ (s : List ℕ) (at d : ℕ) (object : Bool) (p v n : ℕ) where
  abbrev Given : Type 0
  Given = (ts : List (Tree object)) (r : List ℕ) → ListAt s at d object ts r → GivesItem s at d object ts r (At p v n)

  rest_ends : (e : ℕ) → ListEndsAt s n d object e → (ts : List (Tree object)) (r : List ℕ) → GivesItem s at d object ts r (At p v n) → r ≡ drop e s
  rest_ends e l [] r g = absurd g
  rest_ends e l (t ∷ ts) r g = l.rest ts r g.others

  gives_later : (ts : List (Tree object)) (r : List ℕ) → GivesItem s at d object ts r (At p v n) → at < n
  gives_later [] r g = absurd g
  gives_later (t ∷ ts) r g = g.later

  same_end : Given → (ts : List (Tree object)) (r : List ℕ) → ListAt s at d object ts r → (e : ℕ) → ListEndsAt s n d object e → ListEndsAt s at d object e
  same_end g ts r h e l =
      let later = l.later in
      let more = gives_later ts r (g ts r h) in
      record { later = omega arith; within = l.within; rest = λ us x k. rest_ends e l us x (g us x k) }

module _ (s : List ℕ) (c : Elements) where
  element_of : (ts : List Syntax) (r : List ℕ) (p v n : ℕ) → GivesItem s c.at c.depth false ts r (At p v n)
      → ((e : ℕ) → ListEndsAt s n c.depth false e → ListEndsAt s c.at c.depth false e)
      → GivesElement s c (contents (elements ts)) (Some (v, record { at = n; depth = c.depth }))
  unfolding contents elements
  element_of [] r p v n g m = absurd g
  element_of (t ∷ ts) r p v n g m =
      record {
        first = content t;
        others = contents (elements ts);
        split = refl;
        here = record { tree = t; rest = g.after; derives = g.value; stops = g.stops; means = refl };
        left = record { trees = ts; rest = r; derives = g.others; means = refl };
        depth = refl;
        later = g.later;
        within = g.within;
        ends = m;
      }

  no_element : (ts : List Syntax) (r : List ℕ) (e : ℕ) → GivesItem s c.at c.depth false ts r (End e)
      → GivesElement s c (contents (elements ts)) None
  unfolding contents elements
  no_element [] r e g = refl
  no_element (t ∷ ts) r e g = absurd g

  -- where no element is left stands the end mark
  empty_elements : (ts : List Syntax) → contents (elements ts) ≡ no_values → ts ≡ []
  unfolding contents elements
  empty_elements [] e = refl
  empty_elements (t ∷ ts) e = let z : ◌≡◌ {A = ℕ} 0 1 = cc in absurd (omega arith)

  -- Where no element is left before a cursor, only spaces stand between its position and the end mark.
  pub no_elements : (l : ElementsLeft s c no_values) → ListAt s c.at c.depth false [] l.rest
  no_elements l = rw (empty_elements l.trees l.means) at l.derives

  module _ (vs : Values) (l : ElementsLeft s c vs) where
    -- If reading finds an item's value at `v` and the others from `n` on, the first element and the other elements stand there.
    pub gives_element : (p v n : ℕ) → Given s c.at c.depth false p v n → GivesElement s c vs (Some (v, record { at = n; depth = c.depth }))
    gives_element p v n g =
        let h = l.derives in
        let m = same_end s c.at c.depth false p v n g l.trees l.rest h in
        rw l.means at (element_of l.trees l.rest p v n (g l.trees l.rest h) m)

    -- If reading an item finds the end mark, no element is left.
    pub gives_no_element : (e : ℕ) → GivesItem s c.at c.depth false l.trees l.rest (End e) → GivesElement s c vs None
    gives_no_element e g = rw l.means at (no_element l.trees l.rest e g)

module _ (s : List ℕ) (c : Members) where
  member_of : (ts : List MemberTree) (r : List ℕ) (p v n : ℕ) → GivesItem s c.at c.depth true ts r (At p v n)
      → ((e : ℕ) → ListEndsAt s n c.depth true e → ListEndsAt s c.at c.depth true e)
      → GivesMember s c (fields (members ts)) (Some (record { key = p; value = v; rest = record { at = n; depth = c.depth } }))
  unfolding fields members
  member_of [] r p v n g x = absurd g
  member_of (m ∷ ts) r p v n g x =
      let k = member_key s p c.depth m g.after g.derives in
      record {
        key = unescape m.key;
        first = content m.value;
        others = fields (members ts);
        split = refl;
        name = k.1;
        here = record { tree = m.value; rest = g.after; derives = g.value; stops = g.stops; means = refl };
        left = record { trees = ts; rest = r; derives = g.others; means = refl };
        depth = refl;
        later = g.later;
        within = g.within;
        ends = x;
      }

  no_member : (ts : List MemberTree) (r : List ℕ) (e : ℕ) → GivesItem s c.at c.depth true ts r (End e)
      → GivesMember s c (fields (members ts)) None
  unfolding fields members
  no_member [] r e g = refl
  no_member (t ∷ ts) r e g = absurd g

  head_of : (ts : List MemberTree) (p v : ℕ) → Peeks s c.at c.depth true ts (Some (record { first = p; value = v })) → GivesHead s c (fields (members ts)) (Some (record { key = p; value = v }))
  unfolding fields members
  head_of [] p v g = absurd g
  head_of (m ∷ ts) p v g =
      let k = member_key s p c.depth m g.after g.derives in
      record {
        key = unescape m.key;
        first = content m.value;
        others = fields (members ts);
        split = refl;
        name = k.1;
        here = record { tree = m.value; rest = g.after; derives = g.value; stops = g.stops; means = refl };
        place = g.place;
      }

  no_head : (ts : List MemberTree) → Peeks s c.at c.depth true ts None → GivesHead s c (fields (members ts)) None
  unfolding fields members
  no_head [] g = refl
  no_head (t ∷ ts) g = absurd g

  -- where no member is left stands the end mark
  empty_members : (ts : List MemberTree) → fields (members ts) ≡ no_fields → ts ≡ []
  unfolding fields members
  empty_members [] e = refl
  empty_members (t ∷ ts) e = let z : ◌≡◌ {A = ℕ} 0 1 = cc in absurd (omega arith)

  -- Where no member is left before a cursor, only spaces stand between its position and the end mark.
  pub no_members : (l : MembersLeft s c no_fields) → ListAt s c.at c.depth true [] l.rest
  no_members l = rw (empty_members l.trees l.means) at l.derives

  module _ (fs : Fields) (l : MembersLeft s c fs) where
    -- If looking for an item finds it at `p` and its value at `v`, the first member's key and value stand there.
    pub gives_head : (p v : ℕ) → Peeks s c.at c.depth true l.trees (Some (record { first = p; value = v })) → GivesHead s c fs (Some (record { key = p; value = v }))
    gives_head p v g = rw l.means at (head_of l.trees p v g)

    -- If looking for an item finds the end mark, no member is left.
    pub gives_no_head : Peeks s c.at c.depth true l.trees None → GivesHead s c fs None
    gives_no_head g = rw l.means at (no_head l.trees g)

    -- If reading finds an item at `p`, its value at `v` and the others from `n` on, the first member and the others stand there.
    pub gives_member : (p v n : ℕ) → Given s c.at c.depth true p v n → GivesMember s c fs (Some (record { key = p; value = v; rest = record { at = n; depth = c.depth } }))
    gives_member p v n g =
        let h = l.derives in
        let x = same_end s c.at c.depth true p v n g l.trees l.rest h in
        rw l.means at (member_of l.trees l.rest p v n (g l.trees l.rest h) x)

    -- If reading an item finds the end mark, no member is left.
    pub gives_no_member : (e : ℕ) → GivesItem s c.at c.depth true l.trees l.rest (End e) → GivesMember s c fs None
    gives_no_member e g = rw l.means at (no_member l.trees l.rest e g)
