-- What a syntax tree has from the grammar alone: a bound on its depth, digits that are an int, and places that are not the text's end.
use Prim.Native.Nat.{ℕ, zero, suc}
use mathlib.Core.Path.{◌≡◌, refl, subst}
use mathlib.Core.List.{List, [], ◌∷◌, ◌++◌, append-nil}
use mathlib.Core.Bool.{Bool, true, false}
use native.Mathlib.Omega.{arith}
use Rattle.text_json.specs.Syntax.{Char, Numeral, Syntax, Elements, Members, null, boolean, number, string, array, object, no_elements, element, no_members}
use Rattle.text_json.specs.Syntax.{member, Member, elements, members}
use Rattle.text_json.specs.Grammar
use Rattle.text_json.specs.Grammar.{Digits, Int, Unsigned, Number, String, Scalar, Items, Listed, Pair, Nested}
use Rattle.text_content.specs.Fault.{mark}

-- a place has a byte
pub data Place : List ℕ → Type 0 where
  before : {b : ℕ} {s : List ℕ} → Place (b ∷ s)

mutual
  pub data Formed : ℕ → Syntax → Type 0 where
    formed_null : {d : ℕ} → Formed d null
    formed_boolean : {d : ℕ} {b : Bool} → Formed d (boolean b)
    formed_number : {d : ℕ} {p : List ℕ} {n : Numeral} → Place p → Int n.digits n.digits [] → Formed d (number p n)
    formed_string : {d : ℕ} {p : List ℕ} {cs : List Char} → Place p → Formed d (string p cs)
    formed_array : {d : ℕ} {es : Elements} → FormedElements d es → Formed (suc d) (array es)
    formed_object : {d : ℕ} {ms : Members} → FormedMembers d ms → Formed (suc d) (object ms)

  pub data FormedElements : ℕ → Elements → Type 0 where
    formed_none : {d : ℕ} → FormedElements d no_elements
    formed_element : {d : ℕ} {t : Syntax} {es : Elements} → Formed d t → FormedElements d es → FormedElements d (element t es)

  pub data FormedMembers : ℕ → Members → Type 0 where
    formed_empty : {d : ℕ} → FormedMembers d no_members
    formed_member : {d : ℕ} {p : List ℕ} {cs : List Char} {t : Syntax} {ms : Members}
        → Place p → Formed d t → FormedMembers d ms → FormedMembers d (member p cs t ms)

-- a mark of 0 at a place is no mark
pub unmarked : {p : List ℕ} → Place p → (faulty : Bool) → mark faulty p ≡ 0 → faulty ≡ false
unfolding mark
unmarked before true e = absurd (omega arith)
unmarked before false e = refl

-- digits of an int are an int, whatever follows them
digits_again : {s ds r : List ℕ} → Digits s ds r → (q : List ℕ) → Digits (ds ++ q) ds q
digits_again Digits.end q = Digits.end
digits_again (Digits.more e h) q = Digits.more e (digits_again h q)

-- The digits of a number's int are an int of the grammar again, whatever follows them.
pub int_again : {s ds r : List ℕ} → Int s ds r → (q : List ℕ) → Int (ds ++ q) ds q
int_again (Int.lone_zero e) q = Int.lone_zero e
int_again (Int.from_nonzero e n h) q = Int.from_nonzero e n (digits_again h q)

int_alone : {s ds r : List ℕ} → Int s ds r → Int ds ds []
int_alone {ds = ds} h = subst (λ (s : List ℕ). Int s ds []) (append-nil ds) (int_again h [])

unsigned_int : {negative : Bool} {s r : List ℕ} {n : Numeral} → Unsigned negative s n r → Int n.digits n.digits []
unsigned_int (Unsigned.unsigned i f e) = int_alone i

unsigned_place : {negative : Bool} {s r : List ℕ} {n : Numeral} → Unsigned negative s n r → Place s
unsigned_place (Unsigned.unsigned (Int.lone_zero e) f g) = before
unsigned_place (Unsigned.unsigned (Int.from_nonzero e n h) f g) = before

formed_scalar : (d : ℕ) {s r : List ℕ} {t : Syntax} → Scalar s t r → Formed d t
formed_scalar d (Scalar.is_null h) = formed_null
formed_scalar d (Scalar.is_true h) = formed_boolean
formed_scalar d (Scalar.is_false h) = formed_boolean
formed_scalar d (Scalar.is_a_number (Number.plain h)) = formed_number (unsigned_place h) (unsigned_int h)
formed_scalar d (Scalar.is_a_number (Number.minus e h)) = formed_number before (unsigned_int h)
formed_scalar d (Scalar.is_a_string (String.quoted e h)) = formed_string before

module _ (d : ℕ) (Value : List ℕ → Syntax → List ℕ → Type 0) (formed : (s : List ℕ) (t : Syntax) (r : List ℕ) → Value s t r → Formed d t) where
  formed_items : {m : ℕ} {s r : List ℕ} {ts : List Syntax} → Items Value m s ts r → FormedElements d (elements ts)
  unfolding elements
  formed_items (Items.last h g w) = formed_element (formed _ _ _ h) formed_none
  formed_items (Items.next h g w g' i) = formed_element (formed _ _ _ h) (formed_items i)

  formed_listed : {m : ℕ} {s r : List ℕ} {ts : List Syntax} → Listed Value m s ts r → FormedElements d (elements ts)
  unfolding elements
  formed_listed (Listed.empty g w) = formed_none
  formed_listed (Listed.items g i) = formed_items i

  formed_pair : {s r : List ℕ} {m : Member} {ms : Members} → Pair Value s m r → FormedMembers d ms → FormedMembers d (member m.place m.key m.value ms)
  formed_pair (Pair.pair (String.quoted e k) g w g' v) h = formed_member before (formed _ _ _ v) h

  formed_pairs : {m : ℕ} {s r : List ℕ} {ms : List Member} → Items (Pair Value) m s ms r → FormedMembers d (members ms)
  unfolding members
  formed_pairs (Items.last h g w) = formed_pair h formed_empty
  formed_pairs (Items.next h g w g' i) = formed_pair h (formed_pairs i)

  formed_members : {m : ℕ} {s r : List ℕ} {ms : List Member} → Listed (Pair Value) m s ms r → FormedMembers d (members ms)
  unfolding members
  formed_members (Listed.empty g w) = formed_empty
  formed_members (Listed.items g i) = formed_pairs i

-- The tree of a value of the grammar is at most `d` deep, its digits are ints, and its places are not the text's end.
pub formed : (d : ℕ) (s : List ℕ) (t : Syntax) (r : List ℕ) → Grammar.Value d s t r → Formed d t
formed zero s t r h = formed_scalar zero h
formed (suc d) s t r (Nested.is_scalar h) = formed_scalar (suc d) h
formed (suc d) s t r (Nested.is_an_array e h) = formed_array (formed_listed d (Grammar.Value d) (formed d) h)
formed (suc d) s t r (Nested.is_an_object e h) = formed_object (formed_members d (Grammar.Value d) (formed d) h)
