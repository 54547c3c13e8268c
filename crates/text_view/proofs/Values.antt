-- What stands at the position of a value: its first byte tells its kind, and an array or an object goes on with its items.
use Prim.Native.Nat.{ℕ, zero, suc, ◌+◌, ◌-◌, ◌<◌, ◌≤◌}
use mathlib.Core.Path.{◌≡◌, refl, sym, ap, ◌∙◌}
use mathlib.Core.List.{List, [], ◌∷◌}
use mathlib.Core.Bool.{Bool, true, false}
use native.Mathlib.Omega.{arith}
use lib.Dec.{eqb}
use lib.ListN.{length, drop, get_or, length-drop}
use borrow.Author.Tests.{ne_eqb}
use Rattle.text_json.specs.Syntax.{Syntax, Numeral, elements, members}
use Rattle.text_json.specs.Grammar.{Word, Int, Unsigned, Number, String, Scalar, Nested, Value as Derives, Text}
use Rattle.text_json.specs.Read.{spaces}
use Rattle.text_json.proofs.Places.{drop_next}
use Rattle.text_numbers.proofs.Numerals.{digit_range}
use Rattle.text_json.proofs.Grammar.Ends.{inside_length}
use Rattle.text_json.proofs.Grammar.Rests.{value_inside}
use Rattle.text_json.proofs.Grammar.Bytes.{both_ways}
use Rattle.text_json.proofs.Grammar.Complete.{end_stops, space_stops, spaces_complete, first_no_space, value_first}
use Rattle.text_content.specs.Value.{Value, content}
use Rattle.text_view.specs.Place.{ValueAt, kind_of}
use Rattle.text_view.specs.Listed.{Tree, ListAt, open_mark}
use Rattle.text_view.specs.declared.Kind.{Kind}
use Rattle.text_view.specs.declared.Kind.TheVariants.{Null, Boolean, Number as ANumber, String as AString, Array, Object}

-- The byte b stands at position p, and the text goes on as l.
pub record Begins (s : List ℕ) (p b : ℕ) (l : List ℕ) : Type 0 where
  pub within : p < length s
  pub byte : get_or s p 0 ≡ b
  pub next : drop (p + 1) s ≡ l

-- Where the text from a position on is a byte and a rest, the byte stands at the position and the rest after it.
pub begins : (s : List ℕ) (p b : ℕ) (l : List ℕ) → drop p s ≡ b ∷ l → Begins s p b l
begins s p b l e =
    let w : p < length s = omega (arith, length-drop p s, ap length e) in
    let n = drop_next s p w in
    record { within = w; byte = cc; next = cc }

-- the kind that a value's first byte tells
unfoldable pub kind_at : ℕ → Kind
kind_at b =
    elim (eqb b 0x6E) [
      | true ↦ Null
      | false ↦
          elim (eqb b 0x74) [
            | true ↦ Boolean true
            | false ↦
                elim (eqb b 0x66) [
                  | true ↦ Boolean false
                  | false ↦
                      elim (eqb b 0x22) [
                        | true ↦ AString
                        | false ↦
                            elim (eqb b 0x5B) [
                              | true ↦ Array
                              | false ↦
                                  elim (eqb b 0x7B) [ true ↦ Object | false ↦ ANumber ]
                            ]
                      ]
                ]
          ]
    ]

-- a byte that tells no other kind tells a number
pub kind_number : (b : ℕ) → (b ≡ 0x6E → ⊥) → (b ≡ 0x74 → ⊥) → (b ≡ 0x66 → ⊥) → (b ≡ 0x22 → ⊥) → (b ≡ 0x5B → ⊥) → (b ≡ 0x7B → ⊥)
    → kind_at b ≡ ANumber
unfolding kind_at
kind_number b n t f q a o =
    rw (ne_eqb b 0x6E n, kind_at) (rw (ne_eqb b 0x74 t) (rw (ne_eqb b 0x66 f) (rw (ne_eqb b 0x22 q) (rw (ne_eqb b 0x5B a) (rw (ne_eqb b 0x7B o))))))

unfoldable kind_from : List ℕ → Kind
kind_from [] = Null
kind_from (b ∷ l) = kind_at b

-- the first byte of a number is a minus sign or a digit
pub data Numeric : List ℕ → Type 0 where
  numeric : (b : ℕ) {l : List ℕ} → 0x2D ≤ b → b ≤ 0x39 → Numeric (b ∷ l)

int_numeric : {l ds r : List ℕ} → Int l ds r → Numeric l
int_numeric (Int.lone_zero {b} e) = numeric b (omega arith) (omega arith)
int_numeric (Int.from_nonzero {b} e f p) = let h = digit_range b e in numeric b (omega arith) (omega arith)

unsigned_numeric : {negative : Bool} {l r : List ℕ} {n : Numeral} → Unsigned negative l n r → Numeric l
unsigned_numeric (Unsigned.unsigned p q e) = int_numeric p

-- A number begins with a byte from the minus sign to the digit nine.
pub number_numeric : {l r : List ℕ} {n : Numeral} → Number l n r → Numeric l
number_numeric (Number.plain p) = unsigned_numeric p
number_numeric (Number.minus {b} e p) = numeric b (omega arith) (omega arith)

kind_numeric : {l : List ℕ} → Numeric l → kind_from l ≡ ANumber
unfolding kind_from
kind_numeric (numeric b l h) =
    kind_number b (λ e. omega arith) (λ e. omega arith) (λ e. omega arith) (λ e. omega arith) (λ e. omega arith) (λ e. omega arith)

scalar_kind : {l r : List ℕ} {t : Syntax} → Scalar l t r → kind_from l ≡ kind_of (content t)
unfolding kind_from kind_at kind_of content
scalar_kind (Scalar.is_null (Word.more e p)) = rw e
scalar_kind (Scalar.is_true (Word.more e p)) = rw e
scalar_kind (Scalar.is_false (Word.more e p)) = rw e
scalar_kind (Scalar.is_a_number p) = kind_numeric (number_numeric p)
scalar_kind (Scalar.is_a_string (String.quoted e p)) = rw e

value_kind : (d : ℕ) (l : List ℕ) (t : Syntax) (r : List ℕ) → Derives d l t r → kind_from l ≡ kind_of (content t)
unfolding kind_from kind_at kind_of content
value_kind zero l t r p = scalar_kind p
value_kind (suc d) l t r (Nested.is_scalar p) = scalar_kind p
value_kind (suc d) l t r (Nested.is_an_array e p) = rw e
value_kind (suc d) l t r (Nested.is_an_object e p) = rw e

-- A position at which the grammar finds a value is below the text's length.
pub value_within : (s : List ℕ) (at d : ℕ) (t : Syntax) (r : List ℕ) → Derives d (drop at s) t r → at < length s
value_within s at d t r p = omega (arith, length-drop at s, inside_length (value_inside d (drop at s) t r p))

kind_tree : (s : List ℕ) (at d : ℕ) (t : Syntax) (r : List ℕ) → Derives d (drop at s) t r → kind_at (get_or s at 0) ≡ kind_of (content t)
unfolding kind_from
kind_tree s at d t r p = sym (ap kind_from (drop_next s at (value_within s at d t r p))) ∙ value_kind d (drop at s) t r p

module _ (s : List ℕ) (at d : ℕ) (v : Value) (p : ValueAt s at d v) where
  -- A position at which a value with a content stands is below the text's length.
  pub within : at < length s
  within = value_within s at d p.tree p.rest p.derives

  -- The kind that the first byte of a value tells is the value's kind.
  pub kind_at_is : kind_at (get_or s at 0) ≡ kind_of v
  kind_at_is = kind_tree s at d p.tree p.rest p.derives ∙ ap kind_of p.means

-- the kind and the tree of an array or an object
abbrev pub open_kind : Bool → Kind
open_kind false = Array
open_kind true = Object

abbrev pub branch : (object : Bool) → List (Tree object) → Syntax
branch false ts = Syntax.array (elements ts)
branch true ms = Syntax.object (members ms)

-- The opening mark of an array tells the kind array, and that of an object the kind object.
pub open_kind_is : (object : Bool) → kind_at (open_mark object) ≡ open_kind object
unfolding kind_at
open_kind_is false = refl
open_kind_is true = refl

abbrev is_branch : Kind → Bool
is_branch Array = true
is_branch Object = true
is_branch Null = false
is_branch (Boolean b) = false
is_branch ANumber = false
is_branch AString = false

open_branch : (object : Bool) → is_branch (open_kind object) ≡ true
open_branch false = refl
open_branch true = refl

scalar_leaf : {l r : List ℕ} {t : Syntax} → Scalar l t r → is_branch (kind_of (content t)) ≡ false
unfolding kind_of content
scalar_leaf (Scalar.is_null p) = refl
scalar_leaf (Scalar.is_true p) = refl
scalar_leaf (Scalar.is_false p) = refl
scalar_leaf (Scalar.is_a_number p) = refl
scalar_leaf (Scalar.is_a_string p) = refl

no_branch : {C : Type 0} (object : Bool) {l r : List ℕ} {t : Syntax} → kind_of (content t) ≡ open_kind object → Scalar l t r → C
no_branch object k p = both_ways (ap is_branch k ∙ open_branch object) (scalar_leaf p)

-- The items of the array or the object at position `at` stand after its opening mark.
pub record Opened (s : List ℕ) (at d : ℕ) (object : Bool) (t : Syntax) (r : List ℕ) : Type 0 where
  pub some : 0 < d
  pub trees : List (Tree object)
  pub items : ListAt s (at + 1) (d - 1) object trees r
  pub tree : t ≡ branch object trees

opened_list : (s : List ℕ) (at : ℕ) (object : Bool) (d : ℕ) (l : List ℕ) (t : Syntax) (r : List ℕ) → drop at s ≡ l
    → kind_of (content t) ≡ open_kind object → Derives d l t r → Opened s at d object t r
unfolding kind_of content
opened_list s at object zero l t r e k p = no_branch object k p
opened_list s at object (suc d) l t r e k (Nested.is_scalar p) = no_branch object k p
opened_list s at false (suc d) l t r e k (Nested.is_an_array {b} {s = m} {ts = ts} q p) =
    let f : suc d - 1 ≡ d = omega arith in
    record { some = omega arith; trees = ts; items = rw (f, (begins s at b m e).next) p; tree = refl }
opened_list s at true (suc d) l t r e k (Nested.is_an_object {b} {s = m} {ms = ms} q p) =
    let f : suc d - 1 ≡ d = omega arith in
    record { some = omega arith; trees = ms; items = rw (f, (begins s at b m e).next) p; tree = refl }
opened_list s at true (suc d) l t r e k (Nested.is_an_array q p) = let z : ◌≡◌ {A = ℕ} 0 1 = cc in absurd (omega arith)
opened_list s at false (suc d) l t r e k (Nested.is_an_object q p) = let z : ◌≡◌ {A = ℕ} 0 1 = cc in absurd (omega arith)

module _ (s : List ℕ) (at d : ℕ) (t : Syntax) (r : List ℕ) (p : Derives d (drop at s) t r) where
  -- Where the content of a value is an array or an object, its items stand after its first byte.
  pub opened_kind : (object : Bool) → kind_of (content t) ≡ open_kind object → Opened s at d object t r
  opened_kind object k = opened_list s at object d (drop at s) t r refl k p

  -- The same where its first byte tells the kind array or object.
  pub opened_as : (object : Bool) → kind_at (get_or s at 0) ≡ open_kind object → Opened s at d object t r
  opened_as object e = opened_kind object (sym (kind_tree s at d t r p) ∙ e)

  -- The same where its first byte is an opening mark.
  pub opened : (object : Bool) → get_or s at 0 ≡ open_mark object → Opened s at d object t r
  opened object e = opened_as object (ap kind_at e ∙ open_kind_is object)

-- without an opening mark a value is a scalar
scalar_list : (s : List ℕ) (at d : ℕ) (l : List ℕ) (t : Syntax) (r : List ℕ) → drop at s ≡ l → (get_or s at 0 ≡ 0x5B → ⊥) → (get_or s at 0 ≡ 0x7B → ⊥)
    → Derives d l t r → Scalar l t r
scalar_list s at zero l t r e a o p = p
scalar_list s at (suc d) l t r e a o (Nested.is_scalar p) = p
scalar_list s at (suc d) l t r e a o (Nested.is_an_array {b} {s = m} q p) = absurd (a ((begins s at b m e).byte ∙ q))
scalar_list s at (suc d) l t r e a o (Nested.is_an_object {b} {s = m} q p) = absurd (o ((begins s at b m e).byte ∙ q))

-- A value that begins with no opening mark is neither an array nor an object.
pub is_scalar : (s : List ℕ) (at d : ℕ) (t : Syntax) (r : List ℕ) → (get_or s at 0 ≡ 0x5B → ⊥) → (get_or s at 0 ≡ 0x7B → ⊥)
    → Derives d (drop at s) t r → Scalar (drop at s) t r
is_scalar s at d t r a o p = scalar_list s at d (drop at s) t r refl a o p

-- the value of a text stands after its first spaces
pub root_at : (s : List ℕ) (d e : ℕ) (t : Syntax) → spaces s ≡ drop e s → Text d s t → ValueAt s e d (content t)
root_at s d e t h (Text.text {s₁ = l} {s₂ = r} p q w) =
    let k : l ≡ drop e s = sym (spaces_complete p (first_no_space l (value_first d l t r q))) ∙ h in
    record { tree = t; rest = r; derives = rw (← k) q; stops = space_stops w end_stops; means = refl }
