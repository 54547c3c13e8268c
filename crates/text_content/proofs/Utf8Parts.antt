-- The parts of a text that is well-formed UTF-8: what a string stands for is well-formed, and so is what follows each part.
use Prim.Native.Nat.{ℕ, ◌+◌, ◌-◌, ◌*◌, ◌≤◌, ◌<◌}
use mathlib.Core.Path.{◌≡◌, refl, sym, subst, ◌∙◌}
use mathlib.Core.List.{List, [], ◌∷◌, ◌++◌}
use mathlib.Core.Bool.{Bool, true, false, ◌&&◌, ◌||◌}
use mathlib.Core.Logic.{⊎_elim}
use native.Mathlib.Omega.{arith}
use native.Mathlib.Decide.{dec_lt}
use lib.Dec.{leb, eqb}
use borrow.Author.Tests.{le-leb, eqb-true}
use Rattle.laws.proofs.Order.{by_test, false_true}
use Rattle.text_utf8.specs.Utf8.{Range, utf8_from, utf8}
use Rattle.text_utf8.specs.Scalar.{is_scalar, encode}
use Rattle.text_utf8.proofs.Ranges.{and_both}
use Rattle.text_utf8.proofs.Forms.{scalar_low, scalar_high}
use Rattle.text_utf8.proofs.Encodings.{utf8_encode, utf8_encode_append}
use Rattle.text_utf8.proofs.Between.{high, next, ascii_before, ascii_after, ascii_between}
use Rattle.text_json.specs.Bytes.{between, is_space, is_digit, is_exp, is_sign, is_hex, is_short, short_value}
use Rattle.text_json.specs.Syntax.{Char, byte, unit, Numeral}
use Rattle.text_json.specs.Grammar.{Space, Word, Digits, SomeDigits, Int, Frac, Exp, Unsigned, Number, Chars, String, hex_number}
use Rattle.text_json.specs.Content.{is_high, is_low, is_surrogate, is_pair, pair_value, unescape, lone}
use Rattle.text_json.proofs.ByteTests.{or_cases, between_true, hex_cases, number_below}
use Rattle.text_content.proofs.Basic.{or_left, or_right}

-- the bytes that the grammar names are below 80
or_below : (b : ℕ) (x y : Bool) → (x ≡ true → b < 0x80) → (y ≡ true → b < 0x80) → x || y ≡ true → b < 0x80
or_below b x y f g e = ⊎_elim f g (or_cases x y e)

equal_below : (b c : ℕ) → c < 0x80 → eqb b c ≡ true → b < 0x80
equal_below b c h e = let q = eqb-true b c e in omega arith

space_below : (b : ℕ) → is_space b ≡ true → b < 0x80
unfolding is_space
space_below b e =
    or_below b _ _ (equal_below b 0x20 (omega arith)) (or_below b _ _ (equal_below b 0x0A (omega arith))
    (or_below b _ _ (equal_below b 0x0D (omega arith)) (equal_below b 0x09 (omega arith)))) e

digit_below : (b : ℕ) → is_digit b ≡ true → b < 0x80
unfolding is_digit
digit_below b e = let h = between_true 0x30 0x39 b e in omega arith

exp_below : (b : ℕ) → is_exp b ≡ true → b < 0x80
unfolding is_exp
exp_below b e = or_below b _ _ (equal_below b 0x65 (omega arith)) (equal_below b 0x45 (omega arith)) e

sign_below : (b : ℕ) → is_sign b ≡ true → b < 0x80
unfolding is_sign
sign_below b e = or_below b _ _ (equal_below b 0x2D (omega arith)) (equal_below b 0x2B (omega arith)) e

hex_ascii : (b : ℕ) → is_hex b ≡ true → b < 0x80
hex_ascii b e = ⊎_elim (λ h. omega arith) (⊎_elim (λ h. omega arith) (λ h. omega arith)) (hex_cases b e)

short_below : (b : ℕ) → is_short b ≡ true → b < 0x80
unfolding is_short
short_below b e =
    or_below b _ _ (equal_below b 0x22 (omega arith)) (or_below b _ _ (equal_below b 0x5C (omega arith))
    (or_below b _ _ (equal_below b 0x2F (omega arith)) (or_below b _ _ (equal_below b 0x62 (omega arith))
    (or_below b _ _ (equal_below b 0x66 (omega arith)) (or_below b _ _ (equal_below b 0x6E (omega arith))
    (or_below b _ _ (equal_below b 0x72 (omega arith)) (equal_below b 0x74 (omega arith)))))))) e

short_value_below : (b : ℕ) → b < 0x80 → short_value b < 0x80
unfolding short_value
short_value_below b h =
    by_test (eqb b 0x62) (λ e. rw (e, short_value) (omega arith)) (λ e. rw (e, short_value)
    (by_test (eqb b 0x66) (λ f. rw f (omega arith)) (λ f. rw f
    (by_test (eqb b 0x6E) (λ g. rw g (omega arith)) (λ g. rw g
    (by_test (eqb b 0x72) (λ i. rw i (omega arith)) (λ i. rw i
    (by_test (eqb b 0x74) (λ j. rw j (omega arith)) (λ j. rw j h)))))))))

-- what follows each part but a string
pub space_utf8 : {s r : List ℕ} → Space s r → utf8 s ≡ true → utf8 r ≡ true
space_utf8 Space.end w = w
space_utf8 (Space.more {b = b} {s = s} e h) w = space_utf8 h (ascii_after b s (space_below b e) w)

-- a byte that is below 80
pub mark_utf8 : (b c : ℕ) (s : List ℕ) → b ≡ c → c < 0x80 → utf8 (b ∷ s) ≡ true → utf8 s ≡ true
mark_utf8 b c s e h w = ascii_after b s (omega arith) w

abbrev pub AllAscii : List ℕ → Type 0
AllAscii [] = Unit {0}
AllAscii (b ∷ s) = (b < 0x80) × AllAscii s

-- Bytes below 80 (hex) are well-formed UTF-8.
pub ascii_utf8 : (s : List ℕ) → AllAscii s → utf8 s ≡ true
unfolding utf8 utf8_from
ascii_utf8 [] a = refl
ascii_utf8 (b ∷ s) a = ascii_before b s a.0 (ascii_utf8 s a.1)

-- What follows a fixed run of ASCII bytes in a well-formed text is well-formed.
pub word_utf8 : {m s r : List ℕ} → AllAscii m → Word m s r → utf8 s ≡ true → utf8 r ≡ true
word_utf8 a Word.end w = w
word_utf8 a (Word.more {w = c} {b = b} {s = s} e h) w = word_utf8 a.1 h (mark_utf8 b c s e a.0 w)

digits_utf8 : {s ds r : List ℕ} → Digits s ds r → utf8 s ≡ true → utf8 r ≡ true
digits_utf8 Digits.end w = w
digits_utf8 (Digits.more {b = b} {s = s} e h) w = digits_utf8 h (ascii_after b s (digit_below b e) w)

some_digits_utf8 : {s r : List ℕ} → SomeDigits s r → utf8 s ≡ true → utf8 r ≡ true
some_digits_utf8 (SomeDigits.digits {b = b} {s = s} e h) w = digits_utf8 h (ascii_after b s (digit_below b e) w)

int_utf8 : {s ds r : List ℕ} → Int s ds r → utf8 s ≡ true → utf8 r ≡ true
int_utf8 (Int.lone_zero {b = b} {s = s} e) w = mark_utf8 b 0x30 s e (omega arith) w
int_utf8 (Int.from_nonzero {b = b} {s = s} e n h) w = digits_utf8 h (ascii_after b s (digit_below b e) w)

frac_utf8 : {s r : List ℕ} {f : Bool} → Frac s f r → utf8 s ≡ true → utf8 r ≡ true
frac_utf8 Frac.absent w = w
frac_utf8 (Frac.present {b = b} {s = s} e h) w = some_digits_utf8 h (mark_utf8 b 0x2E s e (omega arith) w)

exp_utf8 : {s r : List ℕ} {f : Bool} → Exp s f r → utf8 s ≡ true → utf8 r ≡ true
exp_utf8 Exp.absent w = w
exp_utf8 (Exp.unsigned {b = b} {s = s} e h) w = some_digits_utf8 h (ascii_after b s (exp_below b e) w)
exp_utf8 (Exp.signed {b = b} {c = c} {s = s} e f h) w =
    some_digits_utf8 h (ascii_after c s (sign_below c f) (ascii_after b (c ∷ s) (exp_below b e) w))

-- the digits of an int
digit_list_utf8 : {s ds r : List ℕ} → Digits s ds r → utf8 ds ≡ true
digit_list_utf8 Digits.end = unfold utf8 utf8_from in refl
digit_list_utf8 (Digits.more {b = b} {ds = ds} e h) = ascii_before b ds (digit_below b e) (digit_list_utf8 h)

int_list_utf8 : {s ds r : List ℕ} → Int s ds r → utf8 ds ≡ true
int_list_utf8 (Int.lone_zero {b = b} e) = ascii_before b [] (omega (arith, e)) (unfold utf8 utf8_from in refl)
int_list_utf8 (Int.from_nonzero {b = b} {ds = ds} e n h) = ascii_before b ds (digit_below b e) (digit_list_utf8 h)

unsigned_utf8 : {negative : Bool} {s r : List ℕ} {n : Numeral} → Unsigned negative s n r → utf8 s ≡ true → (utf8 n.digits ≡ true) × (utf8 r ≡ true)
unsigned_utf8 (Unsigned.unsigned i f e) w = (int_list_utf8 i, exp_utf8 e (frac_utf8 f (int_utf8 i w)))

-- The digits of a number in a well-formed text are well-formed, and so is what follows the number.
pub number_utf8 : {s r : List ℕ} {n : Numeral} → Number s n r → utf8 s ≡ true → (utf8 n.digits ≡ true) × (utf8 r ≡ true)
number_utf8 (Number.plain h) w = unsigned_utf8 h w
number_utf8 (Number.minus {b = b} {s = s} e h) w = unsigned_utf8 h (mark_utf8 b 0x2D s e (omega arith) w)

-- a \u escape that is no surrogate's is a scalar value's, and so is a pair's
unit_scalar : (u : ℕ) → u < 0x10000 → is_surrogate u ≡ false → is_scalar u ≡ true
unfolding is_surrogate between
unit_scalar u h e =
    elim (dec_lt u 0xD800) [
      | yes l ↦ scalar_low u l
      | no l ↦ elim (dec_lt u 0xE000) [
        | yes m ↦ false_true (sym e ∙ surrogate (omega arith) (omega arith))
        | no m ↦ scalar_high u (omega arith) (omega arith)
      ]
    ]
  where
    surrogate : 0xD800 ≤ u → u ≤ 0xDFFF → leb 0xD800 u && leb u 0xDFFF ≡ true
    surrogate p q = rw (le-leb 0xD800 u p, le-leb u 0xDFFF q)

pair_scalar : (u v : ℕ) → is_pair u v ≡ true → is_scalar (pair_value u v) ≡ true
unfolding is_pair is_high is_low pair_value
pair_scalar u v e =
    let both = and_both (between 0xD800 0xDBFF u) (between 0xDC00 0xDFFF v) e in
    let p = between_true 0xD800 0xDBFF u both.0 in
    let q = between_true 0xDC00 0xDFFF v both.1 in
    scalar_high (0x10000 + (u - 0xD800) * 0x400 + (v - 0xDC00)) (omega arith) (omega arith)

-- what the chars of a string stand for, after a character that is unfinished, and what follows the string
pub record CharsUtf8 (rs : List Range) (cs : List Char) (r : List ℕ) : Type 0 where
  pub inside : lone cs ≡ false → utf8_from rs (unescape cs) ≡ true
  pub after : utf8 r ≡ true

-- a byte that stands for itself
own_byte : (rs : List Range) (b : ℕ) (s : List ℕ) (cs : List Char) (r : List ℕ) → high rs ≡ true → utf8_from rs (b ∷ s) ≡ true
    → ((qs : List Range) → high qs ≡ true → utf8_from qs s ≡ true → CharsUtf8 qs cs r) → CharsUtf8 rs (byte b ∷ cs) r
unfolding unescape lone
own_byte rs b s cs r h w rest =
    let n = next rs b s h w in
    let t = rest n.left n.above n.well in
    record { inside = λ l. n.same (unescape cs) ∙ t.inside l; after = t.after }

-- a short escape
short_escape : (rs : List Range) (e b : ℕ) (s : List ℕ) (cs : List Char) (r : List ℕ) → e ≡ 0x5C → is_short b ≡ true
    → high rs ≡ true → utf8_from rs (e ∷ b ∷ s) ≡ true → (utf8 s ≡ true → CharsUtf8 [] cs r) → CharsUtf8 rs (byte (short_value b) ∷ cs) r
unfolding unescape lone utf8
short_escape rs e b s cs r p f h w rest =
    let q = ascii_between rs e (b ∷ s) h (omega arith) w in
    let t = rest (ascii_after b s (short_below b f) q.1) in
    record {
      inside = λ l. subst (λ (qs : List Range). utf8_from qs (short_value b ∷ unescape cs) ≡ true) (sym q.0)
          (ascii_before (short_value b) (unescape cs) (short_value_below b (short_below b f)) (t.inside l));
      after = t.after;
    }

-- what follows a \u escape
hex_after : (u a b c d : ℕ) (s : List ℕ) → u ≡ 0x75 → is_hex a ≡ true → is_hex b ≡ true → is_hex c ≡ true → is_hex d ≡ true
    → utf8 (u ∷ a ∷ b ∷ c ∷ d ∷ s) ≡ true → utf8 s ≡ true
hex_after u a b c d s p e f g h w =
    ascii_after d s (hex_ascii d h) (ascii_after c (d ∷ s) (hex_ascii c g) (ascii_after b (c ∷ d ∷ s) (hex_ascii b f)
    (ascii_after a (b ∷ c ∷ d ∷ s) (hex_ascii a e) (mark_utf8 u 0x75 (a ∷ b ∷ c ∷ d ∷ s) p (omega arith) w))))

-- a \u escape, by the char after it
module _ (u : ℕ) (h : u < 0x10000) (r : List ℕ) where
  unit_last : utf8 r ≡ true → CharsUtf8 [] (unit u ∷ []) r
  unfolding unescape lone utf8
  unit_last w = record { inside = λ l. utf8_encode u (unit_scalar u h l); after = w }

  unit_byte : (b : ℕ) (cs : List Char) → CharsUtf8 [] (byte b ∷ cs) r → CharsUtf8 [] (unit u ∷ byte b ∷ cs) r
  unit_byte b cs t = record { inside = go; after = t.after }
    where
      go : lone (unit u ∷ byte b ∷ cs) ≡ false → utf8_from [] (unescape (unit u ∷ byte b ∷ cs)) ≡ true
      go l = unfold unescape lone utf8 in
          utf8_encode_append u (b ∷ unescape cs) (unit_scalar u h (or_left (is_surrogate u) (lone cs) l)) ∙ t.inside (or_right (is_surrogate u) (lone cs) l)

  unit_unit : (v : ℕ) (cs : List Char) → CharsUtf8 [] cs r → CharsUtf8 [] (unit v ∷ cs) r → CharsUtf8 [] (unit u ∷ unit v ∷ cs) r
  unfolding unescape lone utf8
  unit_unit v cs t t' =
      record {
        inside = by_test (is_pair u v)
            (λ e. subst Inside (sym e) (λ l. utf8_encode_append (pair_value u v) (unescape cs) (pair_scalar u v e) ∙ t.inside l))
            (λ e. subst Inside (sym e) (λ l.
            utf8_encode_append u (unescape (unit v ∷ cs)) (unit_scalar u h (or_left (is_surrogate u) (lone (unit v ∷ cs)) l))
            ∙ t'.inside (or_right (is_surrogate u) (lone (unit v ∷ cs)) l)));
        after = t.after;
      }
    where
      Inside : Bool → Type 0
      Inside x =
          elim x as (λ _. Bool) [ true ↦ lone cs | false ↦ is_surrogate u || lone (unit v ∷ cs) ] ≡ false
          → utf8_from [] (elim x as (λ _. List ℕ) [ true ↦ encode (pair_value u v) ++ unescape cs | false ↦ encode u ++ unescape (unit v ∷ cs) ]) ≡ true

-- both, by what the text has from here on
record Carried (s : List ℕ) (cs : List Char) (r : List ℕ) : Type 0 where
  own : (rs : List Range) → high rs ≡ true → utf8_from rs s ≡ true → CharsUtf8 rs cs r
  led : (n : ℕ) → n < 0x10000 → utf8 s ≡ true → CharsUtf8 [] (unit n ∷ cs) r

carried_close : (q : ℕ) (s : List ℕ) → q ≡ 0x22 → Carried (q ∷ s) [] s
unfolding unescape utf8_from
carried_close q s e =
    record {
      own = λ rs h w.
          let p = ascii_between rs q s h (omega arith) w in
          record { inside = λ l. subst (λ (qs : List Range). utf8_from qs [] ≡ true) (sym p.0) refl; after = p.1 };
      led = λ n m w. unit_last n m s (mark_utf8 q 0x22 s e (omega arith) w);
    }

carried_byte : (b : ℕ) (s : List ℕ) (cs : List Char) (r : List ℕ) → Carried s cs r → Carried (b ∷ s) (byte b ∷ cs) r
unfolding utf8
carried_byte b s cs r t =
    record {
      own = λ rs h w. own_byte rs b s cs r h w t.own;
      led = λ n m w. unit_byte n m r b cs (own_byte [] b s cs r refl w t.own);
    }

carried_short : (e b : ℕ) (s : List ℕ) (cs : List Char) (r : List ℕ) → e ≡ 0x5C → is_short b ≡ true → Carried s cs r
    → Carried (e ∷ b ∷ s) (byte (short_value b) ∷ cs) r
unfolding utf8
carried_short e b s cs r p f t =
    record {
      own = λ rs h w. short_escape rs e b s cs r p f h w (t.own [] refl);
      led = λ n m w. unit_byte n m r (short_value b) cs (short_escape [] e b s cs r p f refl w (t.own [] refl));
    }

carried_hex : (e u a b c d : ℕ) (s : List ℕ) (cs : List Char) (r : List ℕ) → e ≡ 0x5C
    → hex_number a b c d < 0x10000 → (utf8 (u ∷ a ∷ b ∷ c ∷ d ∷ s) ≡ true → utf8 s ≡ true) → Carried s cs r
    → Carried (e ∷ u ∷ a ∷ b ∷ c ∷ d ∷ s) (unit (hex_number a b c d) ∷ cs) r
unfolding utf8
carried_hex e u a b c d s cs r p l f t =
    record {
      own = λ rs h w.
          let q = ascii_between rs e (u ∷ a ∷ b ∷ c ∷ d ∷ s) h (omega arith) w in
          subst (λ (qs : List Range). CharsUtf8 qs (unit (hex_number a b c d) ∷ cs) r) (sym q.0) (t.led (hex_number a b c d) l (f q.1));
      led = λ n m w.
          let q = f (mark_utf8 e 0x5C (u ∷ a ∷ b ∷ c ∷ d ∷ s) p (omega arith) w) in
          unit_unit n m r (hex_number a b c d) cs (t.own [] refl q) (t.led (hex_number a b c d) l q);
    }

carried : {s r : List ℕ} {cs : List Char} → Chars s cs r → Carried s cs r
carried (Chars.close {q = q} {s = s} e) = carried_close q s e
carried (Chars.unescaped {b = b} {s = s} {r = r} {cs = cs} e h) = carried_byte b s cs r (carried h)
carried (Chars.short {e = e} {b = b} {s = s} {r = r} {cs = cs} p f h) = carried_short e b s cs r p f (carried h)
carried (Chars.hex {e = e} {u = u} {a = a} {b = b} {c = c} {d = d} {s = s} {r = r} {cs = cs} p f i j k l h) =
    carried_hex e u a b c d s cs r p (number_below a b c d i j k l) (hex_after u a b c d s f i j k l) (carried h)

-- what a string stands for, and what follows it
pub string_utf8 : {s r : List ℕ} {cs : List Char} → String s cs r → utf8 s ≡ true → CharsUtf8 [] cs r
unfolding utf8
string_utf8 (String.quoted {q = q} {s = s} e h) w = (carried h).own [] refl (mark_utf8 q 0x22 s e (omega arith) w)
