-- The items of an array or an object: what stands where the next one is looked for, and what stands after it.
use Prim.Native.Nat.{ℕ, ◌+◌, ◌<◌, ◌≤◌}
use mathlib.Core.Path.{◌≡◌, refl, sym, ap, ◌∙◌}
use mathlib.Core.List.{List, [], ◌∷◌}
use mathlib.Core.Bool.{Bool, true, false, not}
use native.Mathlib.Omega.{arith}
use lib.ListN.{length, drop, get_or, length-drop}
use Rattle.text_json.specs.Bytes.{is_space}
use Rattle.text_json.specs.Syntax.{Char, Member}
use Rattle.text_json.specs.Grammar.{Space, Word, Chars, String, Items, Listed, Pair, Value as Derives, starts, Stops}
use Rattle.text_json.specs.Read.{spaces}
use Rattle.text_json.proofs.Places.{drop_next}
use Rattle.text_json.proofs.Grammar.Ends.{Inside, inside_length}
use Rattle.text_json.proofs.Grammar.Rests.{value_inside, value_ends, pair_inside}
use Rattle.text_json.proofs.Grammar.Bytes.{both_ways}
use Rattle.text_json.proofs.Grammar.Complete.{Closes, is_first, bracket_closes, brace_closes, comma_stops, comma_no_space, space_stops, spaces_complete}
use Rattle.text_json.proofs.Grammar.Complete.{first_no_space, value_first, string_begins}
use Rattle.text_strings.specs.InString.{Inside as InsideString}
use Rattle.text_view.specs.Place.{StringEndsAt}
use Rattle.text_view.specs.Listed.{Tree, DerivesItem, end_mark, ListAt, SomeItem, ItemValue}
use Rattle.text_view.proofs.Values.{begins}
use Rattle.text_view.proofs.Passing.{chars_inside, string_chars}

closes : (object : Bool) → Closes (end_mark object)
closes false = bracket_closes
closes true = brace_closes

pair_begins : (d : ℕ) {l r : List ℕ} {m : Member} → Pair (Derives d) l m r → starts is_first l ≡ true
pair_begins d (Pair.pair p q h i j) = string_begins p

item_first : (object : Bool) (d : ℕ) (l : List ℕ) (t : Tree object) (r : List ℕ) → DerivesItem object d l t r → starts is_first l ≡ true
item_first false d l t r p = value_first d l t r p
item_first true d l t r p = pair_begins d p

-- What follows an item is an end of the text from the item on that leaves out at least its first byte.
pub item_inside : (object : Bool) (d : ℕ) (l : List ℕ) (t : Tree object) (r : List ℕ) → DerivesItem object d l t r → Inside r l
item_inside false d l t r p = value_inside d l t r p
item_inside true d l t r p = pair_inside (value_ends d) l t r p

-- The position of an item is below the text's length.
pub item_within : (s : List ℕ) (p : ℕ) (object : Bool) (d : ℕ) (t : Tree object) (r : List ℕ) → DerivesItem object d (drop p s) t r → p < length s
item_within s p object d t r h = omega (arith, length-drop p s, inside_length (item_inside object d (drop p s) t r h))

-- What stands after an item: the end mark, or a comma and the items ts.
pub data Followed (object : Bool) (d : ℕ) : List ℕ → List (Tree object) → List ℕ → Type 0 where
  last : {l r : List ℕ} (b : ℕ) → b ≡ end_mark object → Space l (b ∷ r) → Followed object d l [] r
  more : {l m r : List ℕ} {ts : List (Tree object)} (b : ℕ) → b ≡ 0x2C → Space l (b ∷ m) → Listed (DerivesItem object d) (end_mark object) m ts r
      → Followed object d l ts r

followed_stops : {object : Bool} {d : ℕ} {l r : List ℕ} {ts : List (Tree object)} → Followed object d l ts r → Stops l
followed_stops {object} (last b e p) = space_stops p (rw e ((closes object).stops _))
followed_stops (more b e p h) = space_stops p (rw e (comma_stops _))

-- What stands at position p: the end mark, or the first item t.
pub data Started (s : List ℕ) (p d : ℕ) (object : Bool) : List (Tree object) → List ℕ → Type 0 where
  ended : {r : List ℕ} → p < length s → get_or s p 0 ≡ end_mark object → r ≡ drop (p + 1) s → Started s p d object [] r
  item : {t : Tree object} {ts : List (Tree object)} {r : List ℕ} (l : List ℕ) → p < length s → (get_or s p 0 ≡ end_mark object → ⊥)
      → DerivesItem object d (drop p s) t l → Stops l → Followed object d l ts r → Started s p d object (t ∷ ts) r

module _ (s : List ℕ) (p d : ℕ) (object : Bool) where
  no_mark : (t : Tree object) (r : List ℕ) → DerivesItem object d (drop p s) t r → get_or s p 0 ≡ end_mark object → ⊥
  no_mark t r h e =
      let w = item_within s p object d t r h in
      let f : is_first (get_or s p 0) ≡ true = rw (drop_next s p w) at (item_first object d (drop p s) t r h) in
      both_ways (ap is_first (sym e) ∙ f) (closes object).no_first

  started_item : (t : Tree object) (l r : List ℕ) (ts : List (Tree object)) → DerivesItem object d (drop p s) t l → Followed object d l ts r
      → Started s p d object (t ∷ ts) r
  started_item t l r ts h f = item l (item_within s p object d t l h) (no_mark t l h) h (followed_stops f) f

  started_items : (l r : List ℕ) (ts : List (Tree object)) → l ≡ drop p s → Items (DerivesItem object d) (end_mark object) l ts r
      → Started s p d object ts r
  started_items l r ts e (Items.last {s₁ = m} {t = t} h q (Word.more {b} f Word.end)) = started_item t m r [] (rw (← e) h) (last b f q)
  started_items l r ts e (Items.next {s₁ = m} {t = t} {ts = us} h q (Word.more {b} f Word.end) i j) =
      started_item t m r us (rw (← e) h) (more b f q (Listed.items i j))

  started_list : (l r : List ℕ) (ts : List (Tree object)) → spaces l ≡ drop p s → Listed (DerivesItem object d) (end_mark object) l ts r
      → Started s p d object ts r
  started_list l r ts e (Listed.empty h (Word.more {b} f Word.end)) =
      let g = begins s p b r (sym e ∙ spaces_complete h (rw f (closes object).no_space)) in
      ended g.within (g.byte ∙ f) (sym g.next)
  started_list l r ts e (Listed.items {s₁ = m} h q) = started_items m r ts (sym (spaces_complete h (first_no_space m (items_first q))) ∙ e) q
    where
      items_first : {m r : List ℕ} {ts : List (Tree object)} → Items (DerivesItem object d) (end_mark object) m ts r → starts is_first m ≡ true
      items_first (Items.last h q w) = item_first object d _ _ _ h
      items_first (Items.next h q w i j) = item_first object d _ _ _ h

  -- After the spaces at the start of a list stands its end mark or its first item.
  pub started : (at : ℕ) (ts : List (Tree object)) (r : List ℕ) → spaces (drop at s) ≡ drop p s → ListAt s at d object ts r
      → Started s p d object ts r
  started at ts r e h = started_list (drop at s) r ts e h

-- What stands at position q after an item and spaces.
pub data Next (s : List ℕ) (q d : ℕ) (object : Bool) : List (Tree object) → List ℕ → Type 0 where
  at_mark : {r : List ℕ} → q < length s → get_or s q 0 ≡ end_mark object → ListAt s q d object [] r → Next s q d object [] r
  at_comma : {ts : List (Tree object)} {r : List ℕ} → q < length s → get_or s q 0 ≡ 0x2C → ListAt s (q + 1) d object ts r
      → Next s q d object ts r

module _ (s : List ℕ) (q d : ℕ) (object : Bool) where
  -- After the spaces that follow an item stands the end mark, or a comma and the other items.
  pub next : (l r : List ℕ) (ts : List (Tree object)) → spaces l ≡ drop q s → Followed object d l ts r → Next s q d object ts r
  next l r ts e (last b f h) =
      let k : drop q s ≡ b ∷ r = sym e ∙ spaces_complete h (rw f (closes object).no_space) in
      let g = begins s q b r k in
      at_mark {r = r} g.within (g.byte ∙ f) (rw k (Listed.empty Space.end (Word.more f Word.end)))
  next l r ts e (more {m = m} b f h i) =
      let g = begins s q b m (sym e ∙ spaces_complete h (rw f comma_no_space)) in
      at_comma {ts = ts} {r = r} g.within (g.byte ∙ f) (rw g.next i)

-- an element is a value itself
pub element_value : (s : List ℕ) (p : ℕ) (object : Bool) → not object ≡ true → ItemValue s p object p
element_value s p false e = record { later = omega arith; value = λ d t r h. h }
element_value s p true e = both_ways e refl

colon_no_space : is_space 0x3A ≡ false
unfolding is_space
colon_no_space = refl

-- the chars of a member's key
pair_chars : (s : List ℕ) (p d : ℕ) {m : Member} {r : List ℕ} → Pair (Derives d) (drop p s) m r → (cs : List Char) × (l : List ℕ) × Chars (drop (p + 1) s) cs l
pair_chars s p d (Pair.pair {s₁ = l} {cs = cs} k q c i j) = (cs, l, string_chars s p cs l k)

-- The position after the first byte of a member is inside a string.
pub key_inside : (s : List ℕ) (p : ℕ) (object : Bool) → not object ≡ false → SomeItem s p object → InsideString s (p + 1)
key_inside s p true n here = let k = pair_chars s p here.depth here.derives in chars_inside s (p + 1) k.0 k.1 k.2
key_inside s p false n here = both_ways refl n

-- A member's value stands after its key, which ends at position e, and a colon at position c.
module _ (s : List ℕ) (p e : ℕ) (ends : StringEndsAt s (p + 1) e) where
  key_end : (cs : List Char) (l : List ℕ) → String (drop p s) cs l → l ≡ drop e s
  key_end cs l k = ends.rest cs l (string_chars s p cs l k)

  module _ (c : ℕ) (after : spaces (drop e s) ≡ drop c s) where
    pair_colon : (d : ℕ) {m : Member} {r : List ℕ} → Pair (Derives d) (drop p s) m r → c < length s
    pair_colon d (Pair.pair {s₁ = l} {s₃ = n} {cs = cs} k q (Word.more {b} f Word.end) i j) =
        let g : spaces l ≡ drop c s = ap spaces (key_end cs l k) ∙ after in
        (begins s c b n (sym g ∙ spaces_complete q (rw f colon_no_space))).within

    pair_value : (v : ℕ) → spaces (drop (c + 1) s) ≡ drop v s → (d : ℕ) (m : Member) (r : List ℕ) → Pair (Derives d) (drop p s) m r
        → Derives d (drop v s) m.value r
    pair_value v x d m r (Pair.pair {s₁ = l} {s₃ = n} {s₄ = o} {cs = cs} {t = t} k q (Word.more {b} f Word.end) i j) =
        let g : spaces l ≡ drop c s = ap spaces (key_end cs l k) ∙ after in
        let y = (begins s c b n (sym g ∙ spaces_complete q (rw f colon_no_space))).next in
        let z : o ≡ drop v s = sym (spaces_complete i (first_no_space o (value_first d o t r j))) ∙ ap spaces (sym y) ∙ x in
        rw (← z) j

  -- The position after a member's key and the spaces that follow it is below the text's length.
  pub member_colon : (object : Bool) → not object ≡ false → SomeItem s p object → (c : ℕ) → spaces (drop e s) ≡ drop c s → c < length s
  member_colon true n here c a = pair_colon c a here.depth here.derives
  member_colon false n here c a = both_ways refl n

  -- A member's value stands after its key, spaces, a colon and spaces.
  pub member_value : (object : Bool) → not object ≡ false → (c v : ℕ) → p ≤ v → spaces (drop e s) ≡ drop c s → spaces (drop (c + 1) s) ≡ drop v s
      → ItemValue s p object v
  member_value true n c v l a x = record { later = l; value = pair_value c a v x }
  member_value false n c v l a x = both_ways refl n
