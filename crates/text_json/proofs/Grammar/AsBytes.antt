-- A text of the grammar stays one where each number over 255 in it, which only a string can have, is replaced by a byte.
use Prim.Native.Nat.{ℕ, zero, suc, ◌≤◌, ◌<◌}
use native.Mathlib.Omega.{arith}
use mathlib.Core.Path.{◌≡◌, refl, sym, ap, subst, ◌∙◌}
use mathlib.Core.List.{List, [], ◌∷◌, ◌++◌}
use mathlib.Core.Bool.{Bool, true, false, ◌&&◌, ◌||◌}
use lib.ListN.{take}
use lib.Dec.{ltb, leb, eqb}
use borrow.Author.Tests.{ltb-true, ltb-false, leb-true, eqb-true}
use Rattle.text_json.specs.Bytes.{AllBytes, between, is_space, is_digit, is_exp, is_sign, is_hex, is_unescaped, is_short}
use Rattle.text_json.specs.Syntax.{Char, Numeral, Syntax, Member}
use Rattle.text_json.specs.Grammar.{Space, Word, Digits, SomeDigits, Int, Frac, Exp, Unsigned, Number, Chars, String, Scalar, Items, Listed, Pair, Nested}
use Rattle.text_json.specs.Grammar.{Value, Text}
use Rattle.text_json.proofs.Grammar.Answer.{by_test}
use Rattle.text_json.proofs.Grammar.Bytes.{or_cases, space_cases, exp_cases}
use Rattle.text_json.proofs.Grammar.Open.{Has, has}

-- a byte is itself, any other number the letter a
unfoldable pub as_byte : ℕ → ℕ
as_byte b = elim (ltb b 256) [ true ↦ b | false ↦ 0x61 ]

unfoldable pub as_bytes : List ℕ → List ℕ
as_bytes [] = []
as_bytes (b ∷ s) = as_byte b ∷ as_bytes s

byte_same : (b : ℕ) → b < 256 → as_byte b ≡ b
unfolding as_byte
byte_same b h = by_test (ltb b 256) (λ e. rw (e, as_byte)) (λ e. absurd (omega (arith, ltb-false b 256 e)))

byte_below : (b : ℕ) → as_byte b < 256
unfolding as_byte
byte_below b = by_test (ltb b 256) (λ e. rw (e, as_byte) (omega (arith, ltb-true b 256 e))) (λ e. rw (e, as_byte) (omega arith))

-- Every element of the replaced list is a byte.
pub bytes_below : (s : List ℕ) → AllBytes (as_bytes s)
unfolding as_bytes
bytes_below [] k = omega arith
bytes_below (b ∷ s) zero = byte_below b
bytes_below (b ∷ s) (suc k) = bytes_below s k

-- The start of a list of bytes is not changed.
pub start_same : (n : ℕ) (s : List ℕ) → AllBytes s → as_bytes (take n s) ≡ take n s
unfolding as_bytes
start_same zero s h = refl
start_same (suc n) [] h = refl
start_same (suc n) (b ∷ s) h = rw (byte_same b (h 0), start_same n s (λ k. h (suc k)))

-- Two lists one after the other are replaced one after the other.
pub bytes_append : (s t : List ℕ) → as_bytes (s ++ t) ≡ as_bytes s ++ as_bytes t
unfolding as_bytes
bytes_append [] t = refl
bytes_append (b ∷ s) t = ap (λ (l : List ℕ). as_byte b ∷ l) (bytes_append s t)

-- a byte passes a test that only bytes pass
kept : (p : ℕ → Bool) (b : ℕ) → p b ≡ true → b < 256 → p (as_byte b) ≡ true
kept p b e h = rw (byte_same b h) e

equal_below : (b k : ℕ) → k < 256 → b ≡ k → as_byte b ≡ k
equal_below b k h e = byte_same b (omega arith) ∙ e

space_kept : {s r : List ℕ} → Space s r → Space (as_bytes s) (as_bytes r)
unfolding as_bytes is_space
space_kept Space.end = Space.end
space_kept (Space.more {b} e p) =
    Space.more (kept is_space b e (space_cases (λ (n : ℕ). n < 256) (omega arith) (omega arith) (omega arith) (omega arith) b e)) (space_kept p)

word_kept : {w s r : List ℕ} → Word w s r → Word (as_bytes w) (as_bytes s) (as_bytes r)
unfolding as_bytes
word_kept Word.end = Word.end
word_kept (Word.more e p) = Word.more (ap as_byte e) (word_kept p)

between_below : (low high b : ℕ) → between low high b ≡ true → b ≤ high
unfolding between
between_below low high b e = go (leb low b) (leb b high) e (leb-true b high)
  where
    go : (x y : Bool) → (x && y) ≡ true → (y ≡ true → b ≤ high) → b ≤ high
    go true y e f = f e
    go false y e f = let z : ◌≡◌ {A = ℕ} 0 1 = cc in absurd (omega arith)

digit_below : (b : ℕ) → is_digit b ≡ true → b < 256
unfolding is_digit
digit_below b e = omega (arith, between_below 0x30 0x39 b e)

digits_kept : {s ds r : List ℕ} → Digits s ds r → Digits (as_bytes s) (as_bytes ds) (as_bytes r)
unfolding as_bytes
digits_kept Digits.end = Digits.end
digits_kept (Digits.more {b} e p) = Digits.more (kept is_digit b e (digit_below b e)) (digits_kept p)

some_digits_kept : {s r : List ℕ} → SomeDigits s r → SomeDigits (as_bytes s) (as_bytes r)
unfolding as_bytes
some_digits_kept (SomeDigits.digits {b} e p) = SomeDigits.digits (kept is_digit b e (digit_below b e)) (digits_kept p)

int_kept : {s ds r : List ℕ} → Int s ds r → Int (as_bytes s) (as_bytes ds) (as_bytes r)
unfolding as_bytes
int_kept (Int.lone_zero {b} e) = Int.lone_zero (equal_below b 0x30 (omega arith) e)
int_kept (Int.from_nonzero {b} e n p) =
    Int.from_nonzero (kept is_digit b e (digit_below b e)) (λ z. n (sym (byte_same b (digit_below b e)) ∙ z)) (digits_kept p)

frac_kept : {s r : List ℕ} {f : Bool} → Frac s f r → Frac (as_bytes s) f (as_bytes r)
unfolding as_bytes
frac_kept Frac.absent = Frac.absent
frac_kept (Frac.present {b} e p) = Frac.present (equal_below b 0x2E (omega arith) e) (some_digits_kept p)

exp_below : (b : ℕ) → is_exp b ≡ true → b < 256
exp_below b e = exp_cases (λ (n : ℕ). n < 256) (omega arith) (omega arith) b e

sign_below : (b : ℕ) → is_sign b ≡ true → b < 256
unfolding is_sign
sign_below b e =
    or_cases (eqb b 0x2D) (eqb b 0x2B) e (λ f. omega (arith, eqb-true b 0x2D f)) (λ f. omega (arith, eqb-true b 0x2B f))

exp_kept : {s r : List ℕ} {f : Bool} → Exp s f r → Exp (as_bytes s) f (as_bytes r)
unfolding as_bytes
exp_kept Exp.absent = Exp.absent
exp_kept (Exp.unsigned {b} e p) = Exp.unsigned (kept is_exp b e (exp_below b e)) (some_digits_kept p)
exp_kept (Exp.signed {b} {c} e f p) = Exp.signed (kept is_exp b e (exp_below b e)) (kept is_sign c f (sign_below c f)) (some_digits_kept p)

unsigned_kept : {negative : Bool} {s r : List ℕ} {n : Numeral} → Unsigned negative s n r → Has (Unsigned negative) (as_bytes s) (as_bytes r)
unsigned_kept (Unsigned.unsigned p q h) = has (Unsigned.unsigned (int_kept p) (frac_kept q) (exp_kept h))

number_kept : {s r : List ℕ} {n : Numeral} → Number s n r → Has Number (as_bytes s) (as_bytes r)
unfolding as_bytes
number_kept (Number.plain p) = elim (unsigned_kept p) [ has q ↦ has (Number.plain q) ]
number_kept (Number.minus {b} e p) = elim (unsigned_kept p) [ has q ↦ has (Number.minus (equal_below b 0x2D (omega arith) e) q) ]

hex_below : (b : ℕ) → is_hex b ≡ true → b < 256
unfolding is_hex
hex_below b e =
    or_cases (between 0x30 0x39 b) _ e (λ f. omega (arith, between_below 0x30 0x39 b f)) (λ f.
    or_cases (between 0x41 0x46 b) _ f (λ g. omega (arith, between_below 0x41 0x46 b g)) (λ g. omega (arith, between_below 0x61 0x66 b g)))

hex_kept : (b : ℕ) → is_hex b ≡ true → is_hex (as_byte b) ≡ true
hex_kept b e = kept is_hex b e (hex_below b e)

-- a byte that is one of these, or what follows says so
one_below : (k b : ℕ) (rest : Bool) → k < 256 → (eqb b k || rest) ≡ true → (rest ≡ true → b < 256) → b < 256
one_below k b rest h e f = or_cases (eqb b k) rest e (λ g. omega (arith, eqb-true b k g)) f

short_below : (b : ℕ) → is_short b ≡ true → b < 256
unfolding is_short
short_below b e =
    one_below 0x22 b _ (omega arith) e (λ e. one_below 0x5C b _ (omega arith) e (λ e. one_below 0x2F b _ (omega arith) e (λ e.
    one_below 0x62 b _ (omega arith) e (λ e. one_below 0x66 b _ (omega arith) e (λ e. one_below 0x6E b _ (omega arith) e (λ e.
    one_below 0x72 b _ (omega arith) e (λ e. omega (arith, eqb-true b 0x74 e))))))))

-- the letter a stands for itself in a string, as every number over 255 does
unescaped_kept : (b : ℕ) → is_unescaped b ≡ true → is_unescaped (as_byte b) ≡ true
unfolding is_unescaped as_byte
unescaped_kept b e = by_test (ltb b 256) (λ f. rw (f, as_byte) e) (λ f. rw (f, as_byte) refl)

chars_kept : {s r : List ℕ} {cs : List Char} → Chars s cs r → Has Chars (as_bytes s) (as_bytes r)
unfolding as_bytes
chars_kept (Chars.close {q} e) = has (Chars.close (equal_below q 0x22 (omega arith) e))
chars_kept (Chars.unescaped {b} e p) = elim (chars_kept p) [ has q ↦ has (Chars.unescaped (unescaped_kept b e) q) ]
chars_kept (Chars.short {e} {b} f g p) =
    elim (chars_kept p) [ has q ↦ has (Chars.short (equal_below e 0x5C (omega arith) f) (kept is_short b g (short_below b g)) q) ]
chars_kept (Chars.hex {e} {u} {a} {b} {c} {d} f g h i j k p) =
    elim (chars_kept p) [
      | has q ↦
          has (Chars.hex (equal_below e 0x5C (omega arith) f) (equal_below u 0x75 (omega arith) g) (hex_kept a h) (hex_kept b i) (hex_kept c j)
          (hex_kept d k) q)
    ]

string_kept : {s r : List ℕ} {cs : List Char} → String s cs r → Has String (as_bytes s) (as_bytes r)
unfolding as_bytes
string_kept (String.quoted {q} e p) = elim (chars_kept p) [ has h ↦ has (String.quoted (equal_below q 0x22 (omega arith) e) h) ]

scalar_kept : {s r : List ℕ} {t : Syntax} → Scalar s t r → Has Scalar (as_bytes s) (as_bytes r)
unfolding as_bytes as_byte
scalar_kept (Scalar.is_null p) = has (Scalar.is_null (word_kept p))
scalar_kept (Scalar.is_true p) = has (Scalar.is_true (word_kept p))
scalar_kept (Scalar.is_false p) = has (Scalar.is_false (word_kept p))
scalar_kept (Scalar.is_a_number p) = elim (number_kept p) [ has q ↦ has (Scalar.is_a_number q) ]
scalar_kept (Scalar.is_a_string p) = elim (string_kept p) [ has q ↦ has (Scalar.is_a_string q) ]

module _ {A : Type 0} (Item : List ℕ → A → List ℕ → Type 0) (mark : ℕ) (small : mark < 256)
    (item_kept : (s : List ℕ) (t : A) (r : List ℕ) → Item s t r → Has Item (as_bytes s) (as_bytes r)) where
  mark_kept : {s r : List ℕ} → Word (mark ∷ []) s r → Word (mark ∷ []) (as_bytes s) (as_bytes r)
  unfolding as_bytes
  mark_kept {s} {r} p = subst (λ (m : ℕ). Word (m ∷ []) (as_bytes s) (as_bytes r)) (byte_same mark small) (word_kept p)

  items_kept : {s r : List ℕ} {ts : List A} → Items Item mark s ts r → Has (Items Item mark) (as_bytes s) (as_bytes r)
  unfolding as_bytes as_byte
  items_kept (Items.last p q h) = elim (item_kept _ _ _ p) [ has i ↦ has (Items.last i (space_kept q) (mark_kept h)) ]
  items_kept (Items.next p q h i j) =
      elim (item_kept _ _ _ p) [
        | has k ↦ elim (items_kept j) [ has l ↦ has (Items.next k (space_kept q) (word_kept h) (space_kept i) l) ]
      ]

  listed_kept : {s r : List ℕ} {ts : List A} → Listed Item mark s ts r → Has (Listed Item mark) (as_bytes s) (as_bytes r)
  listed_kept (Listed.empty p q) = has (Listed.empty (space_kept p) (mark_kept q))
  listed_kept (Listed.items p q) = elim (items_kept q) [ has i ↦ has (Listed.items (space_kept p) i) ]

module _ {Inner : List ℕ → Syntax → List ℕ → Type 0}
    (inner_kept : (s : List ℕ) (t : Syntax) (r : List ℕ) → Inner s t r → Has Inner (as_bytes s) (as_bytes r)) where
  pair_kept : (s : List ℕ) (m : Member) (r : List ℕ) → Pair Inner s m r → Has (Pair Inner) (as_bytes s) (as_bytes r)
  unfolding as_bytes as_byte
  pair_kept s m r (Pair.pair p q h i j) =
      elim (string_kept p) [
        | has k ↦ elim (inner_kept _ _ _ j) [ has l ↦ has (Pair.pair k (space_kept q) (word_kept h) (space_kept i) l) ]
      ]

  nested_kept : (s : List ℕ) (t : Syntax) (r : List ℕ) → Nested Inner s t r → Has (Nested Inner) (as_bytes s) (as_bytes r)
  unfolding as_bytes
  nested_kept s t r (Nested.is_scalar p) = elim (scalar_kept p) [ has q ↦ has (Nested.is_scalar q) ]
  nested_kept s t r (Nested.is_an_array {b} e p) =
      elim (listed_kept Inner 0x5D (omega arith) inner_kept p) [ has q ↦ has (Nested.is_an_array (equal_below b 0x5B (omega arith) e) q) ]
  nested_kept s t r (Nested.is_an_object {b} e p) =
      elim (listed_kept (Pair Inner) 0x7D (omega arith) pair_kept p) [ has q ↦ has (Nested.is_an_object (equal_below b 0x7B (omega arith) e) q) ]

value_kept : (d : ℕ) (s : List ℕ) (t : Syntax) (r : List ℕ) → Value d s t r → Has (Value d) (as_bytes s) (as_bytes r)
value_kept zero s t r p = scalar_kept p
value_kept (suc d) s t r p = nested_kept (value_kept d) s t r p

-- A JSON text stays one, of the same nesting, where numbers that are no bytes are replaced by a byte.
pub text_kept : (d : ℕ) {s : List ℕ} {t : Syntax} → Text d s t → (u : Syntax) × Text d (as_bytes s) u
unfolding as_bytes
text_kept d (Text.text p q h) = go (value_kept d _ _ _ q) (space_kept p) (space_kept h)
  where
    go : {s s₁ s₂ : List ℕ} → Has (Value d) s₁ s₂ → Space s s₁ → Space s₂ [] → (u : Syntax) × Text d s u
    go (has {x} k) p h = (x, Text.text p k h)
