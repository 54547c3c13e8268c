-- The places in a syntax tree are places of its text: what begins at p stands where p is an end of the text.
use Prim.Native.Nat.{ℕ, zero, suc}
use mathlib.Core.Path.{◌≡◌, sym, subst}
use mathlib.Core.Bool.{true}
use lib.Dec.{eqb}
use borrow.Author.Tests.{eq-eqb}
use mathlib.Core.List.{List}
use Rattle.text_json.specs.Syntax.{Char, Syntax, null, boolean, number, string, array, object, Member, elements, members}
use Rattle.text_json.specs.Grammar.{String, Scalar, Items, Listed, Pair, Nested, Value, Text, starts}
use Rattle.text_json.proofs.Grammar.Ends.{Ends, all, after, ends_trans, inside_ends}
use Rattle.text_json.proofs.Grammar.Rests.{space_ends, word_ends, string_inside, value_ends, pair_ends}
use Rattle.text.specs.Places.{Within, AmongElements, AmongMembers, KeyOf, itself, in_array, in_object, this_element, later_element, this_member}
use Rattle.text.specs.Places.{later_member, this_key, later_key}

-- a number, a string or a key begins at p: it is the value, or a key of it
abbrev pub Begins : List ℕ → Syntax → Type 0
Begins p null = ⊥
Begins p (boolean b) = ⊥
Begins p (number q n) = q ≡ p
Begins p (string q cs) = q ≡ p
Begins p (array es) = ⊥
Begins p (object ms) = (cs : List Char) × KeyOf p cs ms

ends_same : {p s : List ℕ} → s ≡ p → Ends p s
ends_same {s = s} e = subst (λ (q : List ℕ). Ends q s) e all

scalar_places : {s r p : List ℕ} {t u : Syntax} → Scalar s t r → Within u t → Begins p u → Ends p s
scalar_places (Scalar.is_null q) itself b = absurd b
scalar_places (Scalar.is_true q) itself b = absurd b
scalar_places (Scalar.is_false q) itself b = absurd b
scalar_places (Scalar.is_a_number q) itself b = ends_same b
scalar_places (Scalar.is_a_string q) itself b = ends_same b

module _ {Inner : List ℕ → Syntax → List ℕ → Type 0} (inner_ends : (s : List ℕ) (t : Syntax) (r : List ℕ) → Inner s t r → Ends r s)
    (inner_places : (s : List ℕ) (t : Syntax) (r : List ℕ) → Inner s t r → (p : List ℕ) (u : Syntax) → Within u t → Begins p u → Ends p s) where
  element_places : {s r p : List ℕ} {ts : List Syntax} {u : Syntax} → Items Inner 0x5D s ts r → AmongElements u (elements ts) → Begins p u → Ends p s
  unfolding elements
  element_places (Items.last i q h) (this_element w) b = inner_places _ _ _ i _ _ w b
  element_places (Items.last i q h) (later_element w) b = elim w [ ]
  element_places (Items.next i q h j k) (this_element w) b = inner_places _ _ _ i _ _ w b
  element_places (Items.next i q h j k) (later_element w) b =
      ends_trans (ends_trans (element_places k w b) (space_ends j)) (ends_trans (ends_trans (word_ends h) (space_ends q)) (inner_ends _ _ _ i))

  member_places : {s r p : List ℕ} {m : Member} {u : Syntax} → Pair Inner s m r → Within u m.value → Begins p u → Ends p s
  member_places (Pair.pair i q h j v) w b =
      ends_trans (ends_trans (inner_places _ _ _ v _ _ w b) (space_ends j))
      (ends_trans (ends_trans (word_ends h) (space_ends q)) (inside_ends (string_inside i)))

  key_place : {s r : List ℕ} {m : Member} → Pair Inner s m r → Ends m.place s
  key_place (Pair.pair i q h j v) = all

  members_places : {s r p : List ℕ} {ms : List Member} {u : Syntax} → Items (Pair Inner) 0x7D s ms r → AmongMembers u (members ms) → Begins p u → Ends p s
  unfolding members
  members_places (Items.last i q h) (this_member w) b = member_places i w b
  members_places (Items.last i q h) (later_member w) b = elim w [ ]
  members_places (Items.next i q h j k) (this_member w) b = member_places i w b
  members_places (Items.next i q h j k) (later_member w) b =
      ends_trans (ends_trans (members_places k w b) (space_ends j)) (ends_trans (ends_trans (word_ends h) (space_ends q)) (pair_ends inner_ends _ _ _ i))

  keys_places : {s r p : List ℕ} {ms : List Member} {cs : List Char} → Items (Pair Inner) 0x7D s ms r → KeyOf p cs (members ms) → Ends p s
  unfolding members
  keys_places (Items.last i q h) this_key = key_place i
  keys_places (Items.last i q h) (later_key l) = elim l [ ]
  keys_places (Items.next i q h j k) this_key = key_place i
  keys_places (Items.next i q h j k) (later_key l) =
      ends_trans (ends_trans (keys_places k l) (space_ends j)) (ends_trans (ends_trans (word_ends h) (space_ends q)) (pair_ends inner_ends _ _ _ i))

  listed_elements : {s r p : List ℕ} {ts : List Syntax} {u : Syntax} → Listed Inner 0x5D s ts r → AmongElements u (elements ts) → Begins p u → Ends p s
  unfolding elements
  listed_elements (Listed.items q k) w b = ends_trans (element_places k w b) (space_ends q)
  listed_elements (Listed.empty _ _) w b = elim w [ ]

  listed_members : {s r p : List ℕ} {ms : List Member} {u : Syntax} → Listed (Pair Inner) 0x7D s ms r → AmongMembers u (members ms) → Begins p u → Ends p s
  unfolding members
  listed_members (Listed.items q k) w b = ends_trans (members_places k w b) (space_ends q)
  listed_members (Listed.empty _ _) w b = elim w [ ]

  listed_keys : {s r p : List ℕ} {ms : List Member} {cs : List Char} → Listed (Pair Inner) 0x7D s ms r → KeyOf p cs (members ms) → Ends p s
  unfolding members
  listed_keys (Listed.items q k) l = ends_trans (keys_places k l) (space_ends q)
  listed_keys (Listed.empty _ _) l = elim l [ ]

  nested_places : (s : List ℕ) (t : Syntax) (r : List ℕ) → Nested Inner s t r → (p : List ℕ) (u : Syntax) → Within u t → Begins p u → Ends p s
  nested_places s t r (Nested.is_scalar q) p u w b = scalar_places q w b
  nested_places s t r (Nested.is_an_array e q) p u itself b = absurd b
  nested_places s t r (Nested.is_an_array e q) p u (in_array w) b = after (listed_elements q w b)
  nested_places s t r (Nested.is_an_object e q) p u itself b = after (listed_keys q b.1)
  nested_places s t r (Nested.is_an_object e q) p u (in_object w) b = after (listed_members q w b)

value_places : (d : ℕ) (s : List ℕ) (t : Syntax) (r : List ℕ) → Value d s t r → (p : List ℕ) (u : Syntax) → Within u t → Begins p u → Ends p s
value_places zero s t r q p u w b = scalar_places q w b
value_places (suc d) s t r q p u w b = nested_places (value_ends d) (value_places d) s t r q p u w b

-- Where a number, a string or a key of a text begins, what stands from there on is an end of the text.
pub text_places : (d : ℕ) {s p : List ℕ} {t u : Syntax} → Text d s t → Within u t → Begins p u → Ends p s
text_places d (Text.text q v h) w b = ends_trans (value_places d _ _ _ v _ _ w b) (space_ends q)

-- A string and a key begin with a quotation mark.

abbrev pub Quoted : List ℕ → Syntax → Type 0
Quoted p null = Unit {0}
Quoted p (boolean b) = Unit {0}
Quoted p (number q n) = Unit {0}
Quoted p (string q cs) = starts (eqb 0x22) p ≡ true
Quoted p (array es) = Unit {0}
Quoted p (object ms) = starts (eqb 0x22) p ≡ true

string_quoted : {s r : List ℕ} {cs : List Char} → String s cs r → starts (eqb 0x22) s ≡ true
string_quoted (String.quoted {q} e c) = eq-eqb 0x22 q (sym e)

scalar_quoted : (p : List ℕ) {s r : List ℕ} {t u : Syntax} → Scalar s t r → Within u t → Begins p u → Quoted p u
scalar_quoted p (Scalar.is_null q) itself b = tt
scalar_quoted p (Scalar.is_true q) itself b = tt
scalar_quoted p (Scalar.is_false q) itself b = tt
scalar_quoted p (Scalar.is_a_number q) itself b = tt
scalar_quoted p (Scalar.is_a_string q) itself b = subst (λ (p : List ℕ). starts (eqb 0x22) p ≡ true) b (string_quoted q)

module _ {Inner : List ℕ → Syntax → List ℕ → Type 0}
    (inner_quoted : (s : List ℕ) (t : Syntax) (r : List ℕ) → Inner s t r → (p : List ℕ) (u : Syntax) → Within u t → Begins p u → Quoted p u) where
  elements_quoted : (p : List ℕ) {s r : List ℕ} {ts : List Syntax} {u : Syntax} → Items Inner 0x5D s ts r → AmongElements u (elements ts)
      → Begins p u → Quoted p u
  unfolding elements
  elements_quoted p (Items.last i q h) (this_element w) b = inner_quoted _ _ _ i p _ w b
  elements_quoted p (Items.last i q h) (later_element w) b = elim w [ ]
  elements_quoted p (Items.next i q h j k) (this_element w) b = inner_quoted _ _ _ i p _ w b
  elements_quoted p (Items.next i q h j k) (later_element w) b = elements_quoted p k w b

  member_quoted : (p : List ℕ) {s r : List ℕ} {m : Member} {u : Syntax} → Pair Inner s m r → Within u m.value → Begins p u → Quoted p u
  member_quoted p (Pair.pair i q h j v) w b = inner_quoted _ _ _ v p _ w b

  members_quoted : (p : List ℕ) {s r : List ℕ} {ms : List Member} {u : Syntax} → Items (Pair Inner) 0x7D s ms r → AmongMembers u (members ms)
      → Begins p u → Quoted p u
  unfolding members
  members_quoted p (Items.last i q h) (this_member w) b = member_quoted p i w b
  members_quoted p (Items.last i q h) (later_member w) b = elim w [ ]
  members_quoted p (Items.next i q h j k) (this_member w) b = member_quoted p i w b
  members_quoted p (Items.next i q h j k) (later_member w) b = members_quoted p k w b

  key_quoted : {s r : List ℕ} {m : Member} → Pair Inner s m r → starts (eqb 0x22) m.place ≡ true
  key_quoted (Pair.pair i q h j v) = string_quoted i

  keys_quoted : {s r p : List ℕ} {ms : List Member} {cs : List Char} → Items (Pair Inner) 0x7D s ms r → KeyOf p cs (members ms) → starts (eqb 0x22) p ≡ true
  unfolding members
  keys_quoted (Items.last i q h) this_key = key_quoted i
  keys_quoted (Items.last i q h) (later_key l) = elim l [ ]
  keys_quoted (Items.next i q h j k) this_key = key_quoted i
  keys_quoted (Items.next i q h j k) (later_key l) = keys_quoted k l

  listed_elements_quoted : (p : List ℕ) {s r : List ℕ} {ts : List Syntax} {u : Syntax} → Listed Inner 0x5D s ts r → AmongElements u (elements ts) → Begins p u
      → Quoted p u
  unfolding elements
  listed_elements_quoted p (Listed.items q k) w b = elements_quoted p k w b
  listed_elements_quoted p (Listed.empty _ _) w b = elim w [ ]

  listed_members_quoted : (p : List ℕ) {s r : List ℕ} {ms : List Member} {u : Syntax} → Listed (Pair Inner) 0x7D s ms r
      → AmongMembers u (members ms) → Begins p u
      → Quoted p u
  unfolding members
  listed_members_quoted p (Listed.items q k) w b = members_quoted p k w b
  listed_members_quoted p (Listed.empty _ _) w b = elim w [ ]

  listed_keys_quoted : {s r p : List ℕ} {ms : List Member} {cs : List Char} → Listed (Pair Inner) 0x7D s ms r → KeyOf p cs (members ms)
      → starts (eqb 0x22) p ≡ true
  unfolding members
  listed_keys_quoted (Listed.items q k) l = keys_quoted k l
  listed_keys_quoted (Listed.empty _ _) l = elim l [ ]

  nested_quoted : (s : List ℕ) (t : Syntax) (r : List ℕ) → Nested Inner s t r → (p : List ℕ) (u : Syntax) → Within u t → Begins p u → Quoted p u
  nested_quoted s t r (Nested.is_scalar q) p u w b = scalar_quoted p q w b
  nested_quoted s t r (Nested.is_an_array e q) p u itself b = tt
  nested_quoted s t r (Nested.is_an_array e q) p u (in_array w) b = listed_elements_quoted p q w b
  nested_quoted s t r (Nested.is_an_object e q) p u itself b = listed_keys_quoted q b.1
  nested_quoted s t r (Nested.is_an_object e q) p u (in_object w) b = listed_members_quoted p q w b

value_quoted : (d : ℕ) (s : List ℕ) (t : Syntax) (r : List ℕ) → Value d s t r → (p : List ℕ) (u : Syntax) → Within u t → Begins p u → Quoted p u
value_quoted zero s t r q p u w b = scalar_quoted p q w b
value_quoted (suc d) s t r q p u w b = nested_quoted (value_quoted d) s t r q p u w b

-- Where a string or a key of a text begins, a quotation mark stands.
pub text_quoted : (d : ℕ) (p : List ℕ) {s : List ℕ} {t u : Syntax} → Text d s t → Within u t → Begins p u → Quoted p u
text_quoted d p (Text.text q v h) w b = value_quoted d _ _ _ v p _ w b
