-- A text is never shorter than the canonical form of its content.
use Prim.Native.Nat.{ℕ, zero, suc, ◌+◌, ◌/◌, ◌%◌, ◌≤◌}
use mathlib.Core.Path.{◌≡◌, refl, sym, ap, ◌∙◌}
use mathlib.Core.List.{List, [], ◌∷◌, ◌++◌}
use mathlib.Core.Bool.{Bool, true, false, ◌||◌}
use native.Mathlib.Omega.{arith}
use lib.ListN.{length, length-append}
use lib.Dec.{ltb, eqb}
use borrow.Author.Tests.{ne_eqb}
use Rattle.laws.proofs.Order.{by_test, false_true}
use Rattle.text_utf8.specs.Scalar.{encode, encode1, encode2, encode3, encode4}
use Rattle.text_json.specs.Bytes.{is_unescaped, short_value}
use Rattle.text_json.specs.Syntax.{Char, byte, unit, Numeral, Syntax, Member, elements, members}
use Rattle.text_json.specs.Grammar
use Rattle.text_json.specs.Grammar.{Space, Word, Digits, SomeDigits, Int, Frac, Exp, Unsigned, Number, Chars, String, Scalar, Items, Listed, Pair, Nested, Text}
use Rattle.text_json.specs.Content.{unescape, is_pair, pair_value, escaped, quoted, signed}
use Rattle.text_content.specs.Value.{content}
use Rattle.text_content.specs.Canonical.{canonical}
use Rattle.text_content.proofs.Size.{enclosed, size_of, size_of_elements, size_of_members, size_canonical}

-- what each part of the grammar takes of a text, at least
pub space_length : {s r : List ℕ} → Space s r → length r ≤ length s
space_length Space.end = omega arith
space_length (Space.more e h) = omega (arith, space_length h)

-- A fixed run of bytes takes as many bytes of the text as it has.
pub word_length : {w s r : List ℕ} → Word w s r → length w + length r ≡ length s
word_length Word.end = omega arith
word_length (Word.more e h) = omega (arith, word_length h)

digits_length : {s ds r : List ℕ} → Digits s ds r → length ds + length r ≡ length s
digits_length Digits.end = omega arith
digits_length (Digits.more e h) = omega (arith, digits_length h)

-- What follows one or more digits is no longer than the text with them.
pub some_digits_length : {s r : List ℕ} → SomeDigits s r → length r ≤ length s
some_digits_length (SomeDigits.digits e h) = omega (arith, digits_length h)

-- An int takes as many bytes of the text as it has digits.
pub int_length : {s ds r : List ℕ} → Int s ds r → length ds + length r ≡ length s
int_length (Int.lone_zero e) = omega arith
int_length (Int.from_nonzero e n h) = omega (arith, digits_length h)

-- What follows a fraction, or none, is no longer than the text with it.
pub frac_length : {s r : List ℕ} {f : Bool} → Frac s f r → length r ≤ length s
frac_length Frac.absent = omega arith
frac_length (Frac.present e h) = omega (arith, some_digits_length h)

-- What follows an exponent, or none, is no longer than the text with it.
pub exp_length : {s r : List ℕ} {e : Bool} → Exp s e r → length r ≤ length s
exp_length Exp.absent = omega arith
exp_length (Exp.unsigned e h) = omega (arith, some_digits_length h)
exp_length (Exp.signed e f h) = omega (arith, some_digits_length h)

unsigned_length : {negative : Bool} {s r : List ℕ} {n : Numeral} → Unsigned negative s n r → length n.digits + length r ≤ length s
unsigned_length (Unsigned.unsigned i f e) = omega (arith, int_length i, frac_length f, exp_length e)

-- The tree of a number has the sign that was read before its int.
pub unsigned_sign : {negative : Bool} {s r : List ℕ} {n : Numeral} → Unsigned negative s n r → n.negative ≡ negative
unsigned_sign (Unsigned.unsigned i f e) = refl

number_length : {s r : List ℕ} {n : Numeral} → Number s n r → length (signed n.negative n.digits) + length r ≤ length s
unfolding signed
number_length (Number.plain h) = rw (unsigned_sign h, signed) (unsigned_length h)
number_length (Number.minus e h) = rw (unsigned_sign h, signed) (omega (arith, unsigned_length h))

-- a byte in a string is written by at most two, and by one if it is neither the quotation mark nor the backslash
pub escaped_byte : (b : ℕ) (s : List ℕ) → length (escaped (b ∷ s)) ≤ 2 + length (escaped s)
unfolding escaped
escaped_byte b s = by_test (eqb b 0x22 || eqb b 0x5C) (λ e. rw (e, escaped) (omega arith)) (λ e. rw (e, escaped) (omega arith))

-- A byte that is neither the quotation mark nor the backslash is written as it stands.
pub escaped_plain : (b : ℕ) (s : List ℕ) → (b ≡ 0x22 → ⊥) → (b ≡ 0x5C → ⊥) → escaped (b ∷ s) ≡ b ∷ escaped s
unfolding escaped
escaped_plain b s p q = rw (ne_eqb b 0x22 p, escaped) (rw (ne_eqb b 0x5C q))

escaped_append : (s t : List ℕ) → escaped (s ++ t) ≡ escaped s ++ escaped t
unfolding escaped
escaped_append [] t = refl
escaped_append (b ∷ s) t = by_test (eqb b 0x22 || eqb b 0x5C) (λ e. rw (e, escaped) (rw (escaped_append s t))) (λ e. rw (e, escaped) (rw (escaped_append s t)))

-- a character is written by at most four bytes: only those below 80 (hex) can be escaped
escaped_high : (b : ℕ) (s : List ℕ) → 0x80 ≤ b → length (escaped (b ∷ s)) ≡ 1 + length (escaped s)
escaped_high b s h = ap length (escaped_plain b s (λ e. omega arith) (λ e. omega arith)) ∙ omega arith

escaped_none : length (escaped []) ≡ 0
unfolding escaped
escaped_none = refl

escaped_encode : (u : ℕ) → length (escaped (encode u)) ≤ 4
unfolding encode
escaped_encode u =
    by_test (ltb u 0x80)
    (λ e. rw (e, encode) one)
    (λ e. rw (e, encode) (by_test (ltb u 0x800)
    (λ f. rw f two)
    (λ f. rw f (by_test (ltb u 0x10000) (λ g. rw g three) (λ g. rw g four)))))
  where
    one : length (escaped (encode1 u)) ≤ 4
    one = omega (arith, escaped_byte u [], escaped_none)

    two : length (escaped (encode2 u)) ≤ 4
    two = rw (escaped_high (0xC0 + u / 64) _ (omega arith), escaped_high (0x80 + u % 64) _ (omega arith)) (omega (arith, escaped_none))

    three : length (escaped (encode3 u)) ≤ 4
    three =
        rw (escaped_high (0xE0 + u / 4096) _ (omega arith), escaped_high (0x80 + u / 64 % 64) _ (omega arith), escaped_high (0x80 + u % 64) _ (omega arith))
        (omega (arith, escaped_none))

    four : length (escaped (encode4 u)) ≤ 4
    four =
        rw (
          escaped_high (0xF0 + u / 262144) _ (omega arith),
          escaped_high (0x80 + u / 4096 % 64) _ (omega arith),
          escaped_high (0x80 + u / 64 % 64) _ (omega arith),
          escaped_high (0x80 + u % 64) _ (omega arith),
        )
        (omega (arith, escaped_none))

-- what a char takes in canonical form, at most; the text has at least that for it, and more for a \u escape
unfoldable pub char_size : Char → ℕ
char_size (byte b) = length (escaped (b ∷ []))
char_size (unit u) = 4

unfoldable pub chars_size : List Char → ℕ
chars_size [] = 0
chars_size (c ∷ cs) = char_size c + chars_size cs

escaped_split : (s t : List ℕ) → length (escaped (s ++ t)) ≡ length (escaped s) + length (escaped t)
escaped_split s t = ap length (escaped_append s t) ∙ length-append (escaped s) (escaped t)

unescape_pair : (u v : ℕ) (cs : List Char) → is_pair u v ≡ true → unescape (unit u ∷ unit v ∷ cs) ≡ encode (pair_value u v) ++ unescape cs
unfolding unescape
unescape_pair u v cs e =
    ap (λ (t : Bool). elim t as (λ _. List ℕ) [ true ↦ encode (pair_value u v) ++ unescape cs | false ↦ encode u ++ unescape (unit v ∷ cs) ]) e

unescape_lone : (u v : ℕ) (cs : List Char) → is_pair u v ≡ false → unescape (unit u ∷ unit v ∷ cs) ≡ encode u ++ unescape (unit v ∷ cs)
unfolding unescape
unescape_lone u v cs e =
    ap (λ (t : Bool). elim t as (λ _. List ℕ) [ true ↦ encode (pair_value u v) ++ unescape cs | false ↦ encode u ++ unescape (unit v ∷ cs) ]) e

-- A string's content in canonical form is no longer than the most that its chars take, added up.
pub escaped_size : (cs : List Char) → length (escaped (unescape cs)) ≤ chars_size cs
unfolding unescape char_size chars_size
escaped_size [] = omega (arith, escaped_none)
escaped_size (byte b ∷ cs) = omega (arith, escaped_split (b ∷ []) (unescape cs), escaped_size cs)
escaped_size (unit u ∷ []) = omega (arith, escaped_encode u)
escaped_size (unit u ∷ byte b ∷ cs) = omega (arith, escaped_split (encode u) (unescape (byte b ∷ cs)), escaped_encode u, escaped_size (byte b ∷ cs))
escaped_size (unit u ∷ unit v ∷ cs) = by_test (is_pair u v) (two (escaped_size cs)) (one (escaped_size (unit v ∷ cs)))
  where
    two : length (escaped (unescape cs)) ≤ chars_size cs → is_pair u v ≡ true
        → length (escaped (unescape (unit u ∷ unit v ∷ cs))) ≤ chars_size (unit u ∷ unit v ∷ cs)
    two ih e = rw (unescape_pair u v cs e) (omega (arith, escaped_split (encode (pair_value u v)) (unescape cs), escaped_encode (pair_value u v)))

    one : length (escaped (unescape (unit v ∷ cs))) ≤ chars_size (unit v ∷ cs) → is_pair u v ≡ false
        → length (escaped (unescape (unit u ∷ unit v ∷ cs))) ≤ chars_size (unit u ∷ unit v ∷ cs)
    one ih e = rw (unescape_lone u v cs e) (omega (arith, escaped_split (encode u) (unescape (unit v ∷ cs)), escaped_encode u))

-- a byte that stands for itself is written as it stands
pub escaped_unescaped : (b : ℕ) (s : List ℕ) → is_unescaped b ≡ true → escaped (b ∷ s) ≡ b ∷ escaped s
unfolding is_unescaped
escaped_unescaped b s e = escaped_plain b s (λ q. false_true (ap is_unescaped (sym q) ∙ e)) (λ q. false_true (ap is_unescaped (sym q) ∙ e))

unescaped_size : (b : ℕ) → is_unescaped b ≡ true → length (escaped (b ∷ [])) ≡ 1
unescaped_size b e = ap length (escaped_unescaped b [] e) ∙ omega (arith, escaped_none)

-- In the text, a string's chars take at least the most that they take in canonical form, and its closing mark one byte.
pub chars_size_bound : {s r : List ℕ} {cs : List Char} → Chars s cs r → chars_size cs + 1 + length r ≤ length s
unfolding char_size chars_size
chars_size_bound (Chars.close e) = omega arith
chars_size_bound (Chars.unescaped {b = b} e h) = omega (arith, chars_size_bound h, unescaped_size b e)
chars_size_bound (Chars.short {b = b} e f h) = omega (arith, chars_size_bound h, escaped_byte (short_value b) [], escaped_none)
chars_size_bound (Chars.hex e f g i j k h) = omega (arith, chars_size_bound h)

-- A string takes at least as many bytes of the text as its canonical form has.
pub string_length : {s r : List ℕ} {cs : List Char} → String s cs r → length (quoted (unescape cs)) + length r ≤ length s
unfolding quoted
string_length (String.quoted {cs = cs} e h) = simp length-append (omega (arith, chars_size_bound h, escaped_size cs))

scalar_length : {s r : List ℕ} {t : Syntax} → Scalar s t r → size_of t + length r ≤ length s
unfolding size_of
scalar_length (Scalar.is_null h) = omega (arith, word_length h)
scalar_length (Scalar.is_true h) = omega (arith, word_length h)
scalar_length (Scalar.is_false h) = omega (arith, word_length h)
scalar_length (Scalar.is_a_number h) = number_length h
scalar_length (Scalar.is_a_string h) = string_length h

-- the items of a list, each with the mark after it
unfoldable pub total_size : {A : Type 0} → (A → ℕ) → List A → ℕ
total_size f [] = 0
total_size f (t ∷ ts) = f t + 1 + total_size f ts

unfoldable pub member_size : Member → ℕ
member_size m = length (quoted (unescape m.key)) + 1 + size_of m.value

-- The size of an array's elements is the sum of their sizes, each with one byte for the mark after it.
pub elements_size : (ts : List Syntax) → size_of_elements (elements ts) ≡ total_size size_of ts
unfolding elements size_of_elements total_size
elements_size [] = refl
elements_size (t ∷ ts) = omega (arith, elements_size ts)

-- The size of an object's members is the sum of their sizes, each with one byte for the mark after it.
pub members_size : (ms : List Member) → size_of_members (members ms) ≡ total_size member_size ms
unfolding members size_of_members total_size member_size
members_size [] = refl
members_size (m ∷ ms) = omega (arith, members_size ms)

module _
    {A : Type 0} (Item : List ℕ → A → List ℕ → Type 0) (f : A → ℕ) (fits : (s : List ℕ) (t : A) (r : List ℕ) → Item s t r → f t + length r ≤ length s) where
  -- The total size of items up to an end mark is at least 1, and they take at least that many bytes of the text.
  pub items_length : {m : ℕ} {s r : List ℕ} {ts : List A} → Items Item m s ts r → (1 ≤ total_size f ts) × (total_size f ts + length r ≤ length s)
  unfolding total_size
  items_length (Items.last h g w) = omega (arith, fits _ _ _ h, space_length g, word_length w)
  items_length (Items.next h g w g' i) = omega (arith, fits _ _ _ h, space_length g, word_length w, space_length g', items_length i)

  -- The items of an array or an object, with both of its marks, take at least as many bytes of the text as their enclosed size.
  pub listed_length : {m : ℕ} {s r : List ℕ} {ts : List A} → Listed Item m s ts r → enclosed (total_size f ts) + length r ≤ suc (length s)
  unfolding total_size enclosed
  listed_length (Listed.empty g w) = omega (arith, space_length g, word_length w)
  listed_length (Listed.items g i) = omega (arith, space_length g, items_length i)

-- If every value takes at least as many bytes of the text as its size, so does every member.
pub pair_length : (Value : List ℕ → Syntax → List ℕ → Type 0) → ((s : List ℕ) (t : Syntax) (r : List ℕ) → Value s t r → size_of t + length r ≤ length s)
    → (s : List ℕ) (m : Member) (r : List ℕ) → Pair Value s m r → member_size m + length r ≤ length s
unfolding member_size
pair_length Value fits s m r (Pair.pair k g w g' v) = omega (arith, string_length k, space_length g, word_length w, space_length g', fits _ _ _ v)

-- A value takes at least as many bytes of the text as the size of its tree.
pub value_length : (d : ℕ) (s : List ℕ) (t : Syntax) (r : List ℕ) → Grammar.Value d s t r → size_of t + length r ≤ length s
unfolding size_of
value_length zero s t r h = scalar_length h
value_length (suc d) s t r (Nested.is_scalar h) = scalar_length h
value_length (suc d) s t r (Nested.is_an_array {ts = ts} e h) = rw (elements_size ts) (listed_length (Grammar.Value d) size_of (value_length d) h)
value_length (suc d) s t r (Nested.is_an_object {ms = ms} e h) =
    rw (members_size ms) (listed_length (Pair (Grammar.Value d)) member_size (pair_length (Grammar.Value d) (value_length d)) h)

-- A value takes at least as many bytes of the text as its canonical form has.
pub value_not_longer : (d : ℕ) (s : List ℕ) (t : Syntax) (r : List ℕ) → Grammar.Value d s t r → length (canonical (content t)) + length r ≤ length s
value_not_longer d s t r h = omega (arith, size_canonical t, value_length d s t r h)

-- The canonical form of a text's content is no longer than the text.
pub not_longer : {d : ℕ} {s : List ℕ} {t : Syntax} → Text d s t → length (canonical (content t)) ≤ length s
not_longer {d} (Text.text {s₁ = s₁} {s₂ = s₂} {t = t} g h g') = omega (arith, space_length g, value_not_longer d s₁ t s₂ h, space_length g')
