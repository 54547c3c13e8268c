-- The rest after a part of the grammar is an end of the text, and all parts but spaces and a number's options have a byte.
use Prim.Native.Nat.{ℕ, zero, suc}
use mathlib.Core.List.{List, ◌∷◌}
use mathlib.Core.Bool.{Bool}
use Rattle.text_json.specs.Syntax.{Char, Numeral, Syntax, Member}
use Rattle.text_json.specs.Grammar.{Space, Word, Digits, SomeDigits, Int, Frac, Exp, Unsigned, Number, Chars, String, Scalar, Items, Listed, Pair, Nested}
use Rattle.text_json.specs.Grammar.{Value}
use Rattle.text_json.proofs.Grammar.Ends.{Ends, all, after, ends_trans, Inside, inside, inside_ends, ends_inside}

-- The rest after white space is an end of the text.
pub space_ends : {s r : List ℕ} → Space s r → Ends r s
space_ends Space.end = all
space_ends (Space.more e p) = after (space_ends p)

-- The rest after a word is an end of the text.
pub word_ends : {w s r : List ℕ} → Word w s r → Ends r s
word_ends Word.end = all
word_ends (Word.more e p) = after (word_ends p)

-- The rest after a word of one byte or more is an end that leaves out the text's first byte.
pub word_inside : {w : ℕ} {ws s r : List ℕ} → Word (w ∷ ws) s r → Inside r s
word_inside (Word.more e p) = inside (word_ends p)

-- The rest after digits, or none, is an end of the text.
pub digits_ends : {s ds r : List ℕ} → Digits s ds r → Ends r s
digits_ends Digits.end = all
digits_ends (Digits.more e p) = after (digits_ends p)

-- The rest after one digit or more is an end that leaves out the text's first byte.
pub some_digits_inside : {s r : List ℕ} → SomeDigits s r → Inside r s
some_digits_inside (SomeDigits.digits e p) = inside (digits_ends p)

-- The same for an integer part.
pub int_inside : {s ds r : List ℕ} → Int s ds r → Inside r s
int_inside (Int.lone_zero e) = inside all
int_inside (Int.from_nonzero e f p) = inside (digits_ends p)

-- The rest after a fraction, present or absent, is an end of the text.
pub frac_ends : {s r : List ℕ} {f : Bool} → Frac s f r → Ends r s
frac_ends Frac.absent = all
frac_ends (Frac.present e p) = after (inside_ends (some_digits_inside p))

-- The rest after an exponent, present or absent, is an end of the text.
pub exp_ends : {s r : List ℕ} {e : Bool} → Exp s e r → Ends r s
exp_ends Exp.absent = all
exp_ends (Exp.unsigned e p) = after (inside_ends (some_digits_inside p))
exp_ends (Exp.signed e f p) = after (after (inside_ends (some_digits_inside p)))

-- The rest after a number without its sign is an end that leaves out the text's first byte.
pub unsigned_inside : {negative : Bool} {s r : List ℕ} {n : Numeral} → Unsigned negative s n r → Inside r s
unsigned_inside (Unsigned.unsigned p q h) = ends_inside (ends_trans (exp_ends h) (frac_ends q)) (int_inside p)

-- The same for a number.
pub number_inside : {s r : List ℕ} {n : Numeral} → Number s n r → Inside r s
number_inside (Number.plain p) = unsigned_inside p
number_inside (Number.minus e p) = inside (inside_ends (unsigned_inside p))

-- The same for the chars of a string and its closing quotation mark.
pub chars_inside : {s r : List ℕ} {cs : List Char} → Chars s cs r → Inside r s
chars_inside (Chars.close e) = inside all
chars_inside (Chars.unescaped e p) = inside (inside_ends (chars_inside p))
chars_inside (Chars.short e f p) = inside (after (inside_ends (chars_inside p)))
chars_inside (Chars.hex e f g h i j p) = inside (after (after (after (after (after (inside_ends (chars_inside p)))))))

-- The same for a string.
pub string_inside : {s r : List ℕ} {cs : List Char} → String s cs r → Inside r s
string_inside (String.quoted e p) = inside (inside_ends (chars_inside p))

-- The same for a value that is neither an array nor an object.
pub scalar_inside : {s r : List ℕ} {t : Syntax} → Scalar s t r → Inside r s
scalar_inside (Scalar.is_null p) = word_inside p
scalar_inside (Scalar.is_true p) = word_inside p
scalar_inside (Scalar.is_false p) = word_inside p
scalar_inside (Scalar.is_a_number p) = number_inside p
scalar_inside (Scalar.is_a_string p) = string_inside p

module _ {A : Type 0} {Item : List ℕ → A → List ℕ → Type 0} (item_ends : (s : List ℕ) (x : A) (r : List ℕ) → Item s x r → Ends r s) where
  -- If the rest after an item is an end of its text, so is the rest after items and their end mark.
  pub items_ends : {mark : ℕ} {s r : List ℕ} {xs : List A} → Items Item mark s xs r → Ends r s
  items_ends (Items.last p q h) = ends_trans (ends_trans (word_ends h) (space_ends q)) (item_ends _ _ _ p)
  items_ends (Items.next p q h i j) =
      ends_trans (ends_trans (items_ends j) (space_ends i)) (ends_trans (ends_trans (word_ends h) (space_ends q)) (item_ends _ _ _ p))

  -- The same for white space, items or none, and their end mark.
  pub listed_ends : {mark : ℕ} {s r : List ℕ} {xs : List A} → Listed Item mark s xs r → Ends r s
  listed_ends (Listed.empty p q) = ends_trans (word_ends q) (space_ends p)
  listed_ends (Listed.items p q) = ends_trans (items_ends q) (space_ends p)

module _ {Inner : List ℕ → Syntax → List ℕ → Type 0} (inner_ends : (s : List ℕ) (t : Syntax) (r : List ℕ) → Inner s t r → Ends r s) where
  -- If the rest after a value is an end of its text, the rest after a member is an end that leaves out the text's first byte.
  pub pair_inside : (s : List ℕ) (m : Member) (r : List ℕ) → Pair Inner s m r → Inside r s
  pair_inside s m r (Pair.pair p q h i j) =
      ends_inside (ends_trans (ends_trans (inner_ends _ _ _ j) (space_ends i)) (ends_trans (word_ends h) (space_ends q))) (string_inside p)

  -- If the rest after a value is an end of its text, so is the rest after a member with such a value.
  pub pair_ends : (s : List ℕ) (m : Member) (r : List ℕ) → Pair Inner s m r → Ends r s
  pair_ends s m r p = inside_ends (pair_inside s m r p)

  -- If the rest after an inner value is an end of its text, that after a value is an end that leaves out the text's first byte.
  pub nested_inside : (s : List ℕ) (t : Syntax) (r : List ℕ) → Nested Inner s t r → Inside r s
  nested_inside s t r (Nested.is_scalar p) = scalar_inside p
  nested_inside s t r (Nested.is_an_array e p) = inside (listed_ends inner_ends p)
  nested_inside s t r (Nested.is_an_object e p) = inside (listed_ends pair_ends p)

-- The rest after a value of bounded depth is an end that leaves out the text's first byte.
pub value_inside : (d : ℕ) (s : List ℕ) (t : Syntax) (r : List ℕ) → Value d s t r → Inside r s
value_inside zero s t r p = scalar_inside p
value_inside (suc d) s t r p = nested_inside (λ s t r q. inside_ends (value_inside d s t r q)) s t r p

-- The rest after a value of bounded depth is an end of the text.
pub value_ends : (d : ℕ) (s : List ℕ) (t : Syntax) (r : List ℕ) → Value d s t r → Ends r s
value_ends d s t r p = inside_ends (value_inside d s t r p)
