-- What `skip` and `read_item` rest on: from a value to its items, and from one item to the next.
use Prim.Native.Nat.{ℕ, ◌+◌, ◌-◌, ◌<◌, ◌≤◌}
use mathlib.Core.Path.{◌≡◌, refl, sym, ap, ◌∙◌}
use mathlib.Core.Logic.{inl, inr, ⊎_elim}
use mathlib.Core.List.{List, [], ◌∷◌}
use mathlib.Core.Bool.{Bool, true, false}
use native.Mathlib.Omega.{arith}
use lib.ListN.{length, drop, get_or, length-drop}
use Rattle.text_json.specs.Grammar.{Items, Listed, Value as Derives, Stops}
use Rattle.text_json.specs.Read.{spaces}
use Rattle.text_json.proofs.Grammar.Ends.{inside_length, ends_length}
use Rattle.text_json.proofs.Grammar.Rests.{space_ends, word_inside}
use Rattle.text_content.specs.Value.{content}
use Rattle.text_view.specs.Place.{Readable, EndsAt, ScalarAt}
use Rattle.text_view.specs.Listed.{Tree, value_tree, DerivesItem, open_mark, end_mark, ListAt, SomeList, AnyList, ListEndsAt, SomeItem, ItemValue, ItemAt}
use Rattle.text_view.specs.Listed.{SomeItemEnd, NoItems, GivesItem, Peeks}
use Rattle.text_view.specs.declared.value.Item.TheVariants.{At, End}
use Rattle.std.specs.Prelude.{Some, None}
use Rattle.text_view.proofs.Values.{value_within, opened, is_scalar, kind_at, open_kind, open_kind_is, opened_as}
use Rattle.text_view.proofs.Nesting.{Opens}
use Rattle.text_view.proofs.Items.{item_inside, Started, started, ended, item, Next, at_mark, at_comma, next}

-- a value: its items, or that it is a scalar
module _ (s : List ℕ) (at d : ℕ) where
  -- The position of a value is below the text's length.
  pub readable_within : Readable s at d → at < length s
  readable_within p = let h = p.here in value_within s at d h.tree h.rest h.derives

  -- a value whose first byte opens an array or an object ends with its items
  pub kind_ends : (object : Bool) → kind_at (get_or s at 0) ≡ open_kind object → (e : ℕ) → ListEndsAt s (at + 1) (d - 1) object e → EndsAt s at d e
  kind_ends object k e l =
      let later = l.later in
      record {
        later = omega arith;
        within = l.within;
        rest = λ t r p _. let o = opened_as s at d t r p object k in l.rest o.trees r o.items;
      }

  module _ (object : Bool) (mark : get_or s at 0 ≡ open_mark object) where
    readable_list : Readable s at d → SomeList s (at + 1) (d - 1) object
    readable_list p =
        let h = p.here in
        let o = opened s at d h.tree h.rest h.derives object mark in
        record { trees = o.trees; rest = h.rest; here = o.items }

    list_ends : (e : ℕ) → ListEndsAt s (at + 1) (d - 1) object e → EndsAt s at d e
    list_ends e l = kind_ends object (ap kind_at mark ∙ open_kind_is object) e l

  -- either opening mark
  pub readable_nested : Opens (get_or s at 0) → Readable s at d → AnyList s (at + 1)
  readable_nested k p =
      ⊎_elim (λ e. record { depth = d - 1; object = false; list = readable_list false e p })
      (λ e. record { depth = d - 1; object = true; list = readable_list true e p }) k

  -- A value that begins with an opening mark ends where the items after that mark end.
  pub nested_ends : Opens (get_or s at 0) → (e : ℕ) → ((x : ℕ) (object : Bool) → ListEndsAt s (at + 1) x object e) → EndsAt s at d e
  nested_ends k e h = ⊎_elim (λ q. list_ends false q e (h (d - 1) false)) (λ q. list_ends true q e (h (d - 1) true)) k

  module _ (mark : Opens (get_or s at 0) → ⊥) where
    array : get_or s at 0 ≡ 0x5B → ⊥
    array e = mark (inl e)

    object : get_or s at 0 ≡ 0x7B → ⊥
    object e = mark (inr e)

    -- A value that begins with no opening mark is neither an array nor an object.
    pub readable_scalar : Readable s at d → ScalarAt s at
    readable_scalar p =
        let h = p.here in
        record { tree = h.tree; rest = h.rest; derives = is_scalar s at d h.tree h.rest array object h.derives; stops = h.stops }

    -- Where such a value ends as one of depth 0, it ends as one of any depth.
    pub scalar_ends : (e : ℕ) → EndsAt s at 0 e → EndsAt s at d e
    scalar_ends e h =
        record { later = h.later; within = h.within; rest = λ t r p stops. h.rest t r (is_scalar s at d t r array object p) stops }

list_length : (object : Bool) (d : ℕ) {l r : List ℕ} {ts : List (Tree object)} → Listed (DerivesItem object d) (end_mark object) l ts r → 0 < length l
list_length object d (Listed.empty p q) = omega (arith, ends_length (space_ends p), inside_length (word_inside q))
list_length object d (Listed.items p (Items.last h q w)) = omega (arith, ends_length (space_ends p), inside_length (item_inside object d _ _ _ h))
list_length object d (Listed.items p (Items.next h q w i j)) = omega (arith, ends_length (space_ends p), inside_length (item_inside object d _ _ _ h))

-- A position from which items and their end mark stand is below the text's length.
pub list_within : (s : List ℕ) (at d : ℕ) (object : Bool) (ts : List (Tree object)) (r : List ℕ) → ListAt s at d object ts r → at < length s
list_within s at d object ts r h = omega (arith, length-drop at s, list_length object d h)

-- an item that was taken: where it stands, where its value stands, and what comes at position q after it
pub data Taken (s : List ℕ) (p v q d : ℕ) (object : Bool) : List (Tree object) → List ℕ → Type 0 where
  taken : {t : Tree object} {ts : List (Tree object)} {r : List ℕ} (l : List ℕ) → DerivesItem object d (drop p s) t l
      → Derives d (drop v s) (value_tree object t) l → Stops l → Next s q d object ts r → Taken s p v q d object (t ∷ ts) r

module _ (s : List ℕ) (p d : ℕ) (object : Bool) where
  -- The position of the end mark or of the first item is below the text's length.
  pub started_within : (ts : List (Tree object)) (r : List ℕ) → Started s p d object ts r → p < length s
  started_within ts r (ended w e f) = w
  started_within ts r (item l w n h i j) = w

  -- At the end mark, looking for an item gives none.
  pub peeks_end : (at : ℕ) (ts : List (Tree object)) (r : List ℕ) → get_or s p 0 ≡ end_mark object → Started s p d object ts r
      → Peeks s at d object ts None
  peeks_end at ts r e (ended w f g) = tt
  peeks_end at ts r e (item l w n h i j) = absurd (n e)

  -- where the end mark stands no item is left, and the list ends after it
  pub ended_here : (r : List ℕ) → Started s p d object [] r → (p < length s) × (get_or s p 0 ≡ end_mark object)
  ended_here r (ended w e f) = (w, e)

  -- Where the end mark stands, what follows the items is the text from the next position on.
  pub ended_rest : get_or s p 0 ≡ end_mark object → (ts : List (Tree object)) (r : List ℕ) → Started s p d object ts r → r ≡ drop (p + 1) s
  ended_rest e ts r (ended w f g) = g
  ended_rest e ts r (item l w n h i j) = absurd (n e)

  module _ (more : get_or s p 0 ≡ end_mark object → ⊥) where
    -- Where the end mark does not stand, an item stands.
    pub some_item : (ts : List (Tree object)) (r : List ℕ) → Started s p d object ts r → SomeItem s p object
    some_item ts r (ended w e f) = absurd (more e)
    some_item ts r (item {t = t} l w n h i j) = record { depth = d; tree = t; rest = l; derives = h; stops = i }

    module _ (v : ℕ) (here : ItemValue s p object v) where
      -- From a position with only spaces before that item, looking gives the item's position and its value's.
      pub peeks_item : (at : ℕ) → at ≤ p → spaces (drop at s) ≡ drop p s → (ts : List (Tree object)) (r : List ℕ) → Started s p d object ts r
          → Peeks s at d object ts (Some (record { first = p; value = v }))
      peeks_item at a e ts r (ended w f g) = absurd (more f)
      peeks_item at a e ts r (item {t = t} l w n h i j) =
          record {
            place = record { reached = a; start = e; more = more; value = here };
            after = l;
            derives = h;
            value = here.value d t l h;
            stops = i;
          }

      -- That item is taken, where its value ends at `e` and the text goes on at `q` after spaces.
      pub take : (e q : ℕ) → EndsAt s v d e → spaces (drop e s) ≡ drop q s → (ts : List (Tree object)) (r : List ℕ) → Started s p d object ts r
          → Taken s p v q d object ts r
      take e q k f ts r (ended w m g) = absurd (more m)
      take e q k f ts r (item {t = t} {ts = us} l w n h i j) =
          let x = here.value d t l h in
          taken l h x i (next s q d object l r us (ap spaces (k.rest (value_tree object t) l x i) ∙ f) j)

comma_mark : (object : Bool) → 0x2C ≡ end_mark object → ⊥
comma_mark false e = omega arith
comma_mark true e = omega arith

module _ (s : List ℕ) (p v q d : ℕ) (object : Bool) where
  next_within : (ts : List (Tree object)) (r : List ℕ) → Next s q d object ts r → q < length s
  next_within ts r (at_mark w e h) = w
  next_within ts r (at_comma w e h) = w

  -- The position after a taken item and spaces is below the text's length.
  pub taken_within : (ts : List (Tree object)) (r : List ℕ) → Taken s p v q d object ts r → q < length s
  taken_within ts r (taken {ts = us} l h x i n) = next_within us r n

  after_comma : (ts : List (Tree object)) (r : List ℕ) → get_or s q 0 ≡ 0x2C → Next s q d object ts r → ListAt s (q + 1) d object ts r
  after_comma ts r e (at_mark w f h) = absurd (comma_mark object (sym e ∙ f))
  after_comma ts r e (at_comma w f h) = h

  at_the_end : (ts : List (Tree object)) (r : List ℕ) → (get_or s q 0 ≡ 0x2C → ⊥) → Next s q d object ts r → ListAt s q d object ts r
  at_the_end ts r e (at_mark w f h) = h
  at_the_end ts r e (at_comma w f h) = absurd (e f)

  -- Where a comma stands at `q` after a taken item, reading gives the item, its value and the position after the comma.
  pub gives_comma : (at : ℕ) (ts : List (Tree object)) (r : List ℕ) → at < q → get_or s q 0 ≡ 0x2C → Taken s p v q d object ts r
      → GivesItem s at d object ts r (At p v (q + 1))
  gives_comma at ts r a e (taken {ts = us} l h x i n) =
      let w = next_within us r n in
      record { after = l; derives = h; value = x; stops = i; others = after_comma us r e n; later = omega arith; within = omega arith }

  -- Where no comma stands at `q` after a taken item, reading gives the item, its value and the position `q`.
  pub gives_last : (at : ℕ) (ts : List (Tree object)) (r : List ℕ) → at < q → (get_or s q 0 ≡ 0x2C → ⊥) → Taken s p v q d object ts r
      → GivesItem s at d object ts r (At p v q)
  gives_last at ts r a e (taken {ts = us} l h x i n) =
      let w = next_within us r n in
      record { after = l; derives = h; value = x; stops = i; others = at_the_end us r e n; later = a; within = omega arith }

-- What stands at position q, after the value of an item that ends at position e and spaces.
module _ (s : List ℕ) (at d : ℕ) (object : Bool) (p v : ℕ) (place : ItemAt s at object p v) (e : ℕ) (ends : EndsAt s v d e) where
  module _ (q : ℕ) (past : spaces (drop e s) ≡ drop q s) where
    -- The first of the items from `at` on, at `p` with its value at `v`, is taken.
    pub item_taken : (ts : List (Tree object)) (r : List ℕ) → ListAt s at d object ts r → Taken s p v q d object ts r
    item_taken ts r h =
        take s p d object place.more v place.value e q ends past ts r (started s p d object at ts r place.start h)

    -- The position after that item and spaces is below the text's length and after the position `at`.
    pub item_next : e ≤ q → (ts : List (Tree object)) (r : List ℕ) → ListAt s at d object ts r → (q < length s) × (at < q)
    item_next l ts r h =
        let a = place.reached in
        let b = place.value.later in
        let c = ends.later in
        (taken_within s p v q d object ts r (item_taken ts r h), omega arith)

-- the same where some items are known
pub some_next : (s : List ℕ) (e : ℕ) (o : SomeItemEnd s e) (q : ℕ) → e ≤ q → spaces (drop e s) ≡ drop q s → q < length s
some_next s e o q l h =
    let k = o.list in
    (item_next s o.at o.depth o.object o.first o.value o.place e o.ends q h l k.trees k.rest k.here).0

-- What is read from position `at` on, by what looking there gives.
module _ (s : List ℕ) (at d : ℕ) (object : Bool) where
  -- Where an item was seen, it and its value stand at those positions.
  pub seen_place : (p v : ℕ) (ts : List (Tree object)) → Peeks s at d object ts (Some (record { first = p; value = v })) → ItemAt s at object p v
  seen_place p v [] g = absurd g
  seen_place p v (t ∷ ts) g = g.place

  -- At the position of its value stands a value, nested at most as deep as the items may be.
  pub seen_readable : (p v : ℕ) (ts : List (Tree object)) → Peeks s at d object ts (Some (record { first = p; value = v })) → Readable s v d
  seen_readable p v [] g = absurd g
  seen_readable p v (t ∷ ts) g =
      record {
        value = content (value_tree object t);
        here = record { tree = value_tree object t; rest = g.after; derives = g.value; stops = g.stops; means = refl };
      }

  -- Where no item was seen, none stands.
  pub seen_none : (ts : List (Tree object)) (r : List ℕ) → ListAt s at d object ts r → Peeks s at d object ts None → NoItems s at
  seen_none [] r h g = record { depth = d; object = object; rest = r; here = h }
  seen_none (t ∷ ts) r h g = absurd g

  -- Where no item was seen, reading gives the position after the end mark.
  pub gives_end : (e : ℕ) (ts : List (Tree object)) (r : List ℕ) → ListAt s at d object ts r → Peeks s at d object ts None
      → (ListAt s at d object [] r → ListEndsAt s at d object e) → GivesItem s at d object ts r (End e)
  gives_end e [] r h g f = let l = f h in (l.later, l.within, l.rest [] r h)
  gives_end e (t ∷ ts) r h g f = absurd g

-- An end mark at position p, after spaces, ends the list that has no item from position `at` on.
module _ (s : List ℕ) (at p : ℕ) (reached : at ≤ p) (start : spaces (drop at s) ≡ drop p s) where
  -- The position of that end mark is below the text's length.
  pub empty_within : NoItems s at → p < length s
  empty_within n = (ended_here s p n.depth n.object n.rest (started s p n.depth n.object at [] n.rest start n.here)).0

  -- A list that has no item ends at the position after that end mark.
  pub empty_ends : (d : ℕ) (object : Bool) (r : List ℕ) → ListAt s at d object [] r → ListEndsAt s at d object (p + 1)
  empty_ends d object r h =
      let x = ended_here s p d object r (started s p d object at [] r start h) in
      let w = x.0 in
      record {
        later = omega arith;
        within = omega arith;
        rest = λ ts l k. ended_rest s p d object x.1 ts l (started s p d object at ts l start k);
      }
