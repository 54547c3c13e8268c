-- What is read is in the grammar, and every rest is an end of the text.
use Prim.Native.Nat.{ℕ, zero, suc, ◌*◌, ◌+◌, ◌<◌}
use native.Mathlib.Nat.{zero-add}
use mathlib.Core.Path.{◌≡◌}
use mathlib.Core.List.{List, [], ◌∷◌}
use mathlib.Core.Bool.{Bool, true, false, ◌&&◌}
use lib.ListN.{length}
use lib.Dec.{eqb}
use borrow.Author.Tests.{eqb-true, eqb-false}
use Rattle.text_json.specs.Bytes.{is_space, is_digit, is_exp, is_sign, is_hex, hex_value, is_unescaped, is_short, short_value}
use Rattle.text_json.specs.Syntax.{Char, byte, unit, Syntax, number, string, array, object, Member, elements, members}
use Rattle.text_json.specs.Grammar.{hex_number, Space, Word, Digits, SomeDigits, Int, Frac, Exp, Unsigned, Number, Chars, String, Scalar, Items}
use Rattle.text_json.specs.Grammar.{Listed, Pair, Nested, Value}
use Rattle.text_json.specs.Read.{Read, found, and_then, spaces, read_word, digits_of, after_digits, read_some_digits, read_int, read_frac, read_signed, read_exp}
use Rattle.text_json.specs.Read.{read_unsigned, read_number, Pending, read_chars, read_string, read_scalar, after_item, read_items, read_first, read_listed}
use Rattle.text_json.specs.Read.{read_pair, read_nested, read}
use Rattle.text_json.proofs.Grammar.Ends.{Ends, all, after, inside_ends, inside_length}
use Rattle.text_json.proofs.Grammar.Rests.{space_ends, word_ends, int_inside, frac_ends, string_inside, pair_ends, value_inside, value_ends}
use Rattle.text_json.proofs.Grammar.Answer.{Answer, is_found, is_stuck, Reads, by_test, answer_found, answer_map, reads_within, reads_then, reads_after}
use Rattle.text_json.proofs.Grammar.Answer.{reads_as, reads_prepend}

-- spaces, words and digits

-- What is skipped as white space is white space by the grammar.
pub spaces_sound : (s : List ℕ) → Space s (spaces s)
unfolding spaces
spaces_sound [] = Space.end
spaces_sound (b ∷ s) = by_test (is_space b) (λ e. rw (e, spaces) (Space.more e (spaces_sound s))) (λ e. rw (e, spaces) Space.end)

-- Reading a word finds that word by the grammar, or is stuck at an end of the text.
pub word_reads : (w s : List ℕ) → Reads (λ s _ r. Word w s r) s (read_word w s)
unfolding read_word
word_reads [] s = is_found Word.end
word_reads (w ∷ ws) [] = is_stuck all
word_reads (w ∷ ws) (b ∷ s) =
    by_test (eqb b w) (λ e. rw (e, read_word) (reads_after (λ _ _ p. Word.more (eqb-true b w e) p) (word_reads ws s)))
    (λ e. rw (e, read_word) (is_stuck all))

-- The digits at the start and the rest after them are digits and their rest by the grammar.
pub digits_sound : (s : List ℕ) → Digits s (digits_of s) (after_digits s)
unfolding digits_of after_digits
digits_sound [] = Digits.end
digits_sound (b ∷ s) =
    by_test (is_digit b) (λ e. rw (e, digits_of, after_digits) (Digits.more e (digits_sound s)))
    (λ e. rw (e, digits_of, after_digits) Digits.end)

-- Reading one digit or more finds such digits by the grammar, or is stuck at an end of the text.
pub some_digits_reads : (s : List ℕ) → Reads (λ s _ r. SomeDigits s r) s (read_some_digits s)
unfolding read_some_digits
some_digits_reads [] = is_stuck all
some_digits_reads (b ∷ s) =
    by_test (is_digit b) (λ e. rw (e, read_some_digits) (is_found (SomeDigits.digits e (digits_sound s))))
    (λ e. rw (e, read_some_digits) (is_stuck all))

-- numbers

-- Reading an integer part finds one by the grammar, or is stuck at an end of the text.
pub int_reads : (s : List ℕ) → Reads Int s (read_int s)
unfolding read_int
int_reads [] = is_stuck all
int_reads (b ∷ s) =
    by_test (eqb b 0x30) (λ e. rw (e, read_int) (is_found (Int.lone_zero (eqb-true b 0x30 e)))) (λ e. rw (e, read_int)
    (by_test (is_digit b) (λ f. rw f (is_found (Int.from_nonzero f (eqb-false b 0x30 e) (digits_sound s)))) (λ f. rw f (is_stuck all))))

-- An integer part that is found is one by the grammar, with the same digits and rest.
pub int_sound : (s ds r : List ℕ) → read_int s ≡ found ds r → Int s ds r
int_sound s ds r e = answer_found (int_reads s) e

-- Reading a fraction finds one by the grammar, present or absent, or is stuck at an end of the text.
pub frac_reads : (s : List ℕ) → Reads Frac s (read_frac s)
unfolding read_frac
frac_reads [] = is_found Frac.absent
frac_reads (b ∷ s) =
    by_test (eqb b 0x2E)
    (λ e. rw (e, read_frac) (reads_within (after all) (reads_as (λ _. false) (some_digits_reads s) (λ _ _ p. Frac.present (eqb-true b 0x2E e) p))))
    (λ e. rw (e, read_frac) (is_found Frac.absent))

-- [ minus / plus ] 1*DIGIT, after the byte e of an exponent
pub signed_reads : (e : ℕ) → is_exp e ≡ true → (s : List ℕ) → Reads (λ s _ r. Exp (e ∷ s) false r) s (read_signed s)
unfolding read_signed
signed_reads e x [] = is_stuck all
signed_reads e x (b ∷ s) =
    by_test (is_sign b)
    (λ f. rw (f, read_signed) (reads_after (λ _ _ p. Exp.signed x f p) (some_digits_reads s)))
    (λ f. rw (f, read_signed) (answer_map (λ _ _ p. Exp.unsigned x p) (λ _ p. p) (some_digits_reads (b ∷ s))))

-- Reading an exponent finds one by the grammar, present or absent, or is stuck at an end of the text.
pub exp_reads : (s : List ℕ) → Reads Exp s (read_exp s)
unfolding read_exp
exp_reads [] = is_found Exp.absent
exp_reads (b ∷ s) =
    by_test (is_exp b)
    (λ e. rw (e, read_exp) (reads_within (after all) (reads_as (λ _. false) (signed_reads b e s) (λ _ _ p. p))))
    (λ e. rw (e, read_exp) (is_found Exp.absent))

-- Reading a number without its sign finds one by the grammar, or is stuck at an end of the text.
pub unsigned_reads : (negative : Bool) (s : List ℕ) → Reads (Unsigned negative) s (read_unsigned negative s)
unfolding read_unsigned
unsigned_reads negative s =
    reads_then (int_reads s) (λ _ _ p. inside_ends (int_inside p)) (λ ds s₁ p.
    reads_then (frac_reads s₁) (λ _ _ q. frac_ends q) (λ f s₂ q.
    reads_as (λ e. record { negative = negative; digits = ds; whole = f && e }) (exp_reads s₂) (λ e r h. Unsigned.unsigned p q h)))

-- Reading a number finds one by the grammar, or is stuck at an end of the text.
pub number_reads : (s : List ℕ) → Reads Number s (read_number s)
unfolding read_number
number_reads [] = is_stuck all
number_reads (b ∷ s) =
    by_test (eqb b 0x2D)
    (λ e. rw (e, read_number) (reads_after (λ _ _ p. Number.minus (eqb-true b 0x2D e) p) (unsigned_reads true s)))
    (λ e. rw (e, read_number) (answer_map (λ _ _ p. Number.plain p) (λ _ p. p) (unsigned_reads false (b ∷ s))))

-- strings

-- *char quotation-mark from inside a char, as reading stands
pub data Rest : Pending → List ℕ → List Char → List ℕ → Type 0 where
  chars : {s r : List ℕ} {cs : List Char} → Chars s cs r → Rest Pending.char s cs r
  short : {b : ℕ} {s r : List ℕ} {cs : List Char} → is_short b ≡ true → Chars s cs r → Rest Pending.escape (b ∷ s) (byte (short_value b) ∷ cs) r
  unicode : {u : ℕ} {s r : List ℕ} {cs : List Char} → u ≡ 0x75 → Rest (Pending.hex 3 0) s cs r → Rest Pending.escape (u ∷ s) cs r
  last : {n b : ℕ} {s r : List ℕ} {cs : List Char} → is_hex b ≡ true → Chars s cs r
      → Rest (Pending.hex zero n) (b ∷ s) (unit (n * 16 + hex_value b) ∷ cs) r
  next : {k n b : ℕ} {s r : List ℕ} {cs : List Char} → is_hex b ≡ true → Rest (Pending.hex k (n * 16 + hex_value b)) s cs r
      → Rest (Pending.hex (suc k) n) (b ∷ s) cs r

four_digits : {e u : ℕ} {s r : List ℕ} {cs : List Char} → e ≡ 0x5C → u ≡ 0x75 → Rest (Pending.hex 3 0) s cs r → Chars (e ∷ u ∷ s) cs r
unfolding hex_number
four_digits e u (Rest.next {b = b₁} a (Rest.next b (Rest.next c (Rest.last d p)))) = rw (zero-add (hex_value b₁)) (Chars.hex e u a b c d p)

-- A backslash, the rest of its escape and the chars after that are chars of a string by the grammar.
pub after_backslash : {e : ℕ} {s r : List ℕ} {cs : List Char} → e ≡ 0x5C → Rest Pending.escape s cs r → Chars (e ∷ s) cs r
after_backslash e (Rest.short f p) = Chars.short e f p
after_backslash e (Rest.unicode u p) = four_digits e u p

-- The rest of a string that begins at a char is chars of a string by the grammar.
pub of_chars : {s r : List ℕ} {cs : List Char} → Rest Pending.char s cs r → Chars s cs r
of_chars (Rest.chars p) = p

-- Reading chars, whatever is pending, finds what that leaves of chars by the grammar, or is stuck at an end of the text.
pub rest_reads : (p : Pending) (s : List ℕ) → Reads (Rest p) s (read_chars p s)
unfolding read_chars
rest_reads Pending.char [] = is_stuck all
rest_reads Pending.escape [] = is_stuck all
rest_reads (Pending.hex k n) [] = is_stuck all
rest_reads Pending.char (b ∷ s) =
    by_test (eqb b 0x22) (λ e. rw (e, read_chars) (is_found (Rest.chars (Chars.close (eqb-true b 0x22 e))))) (λ e. rw (e, read_chars)
    (by_test (eqb b 0x5C) (λ f. rw f (reads_after (λ _ _ p. Rest.chars (after_backslash (eqb-true b 0x5C f) p)) (rest_reads Pending.escape s)))
    (λ f. rw f
    (by_test (is_unescaped b)
    (λ g. rw g (reads_within (after all) (reads_prepend (byte b) (rest_reads Pending.char s)
    (λ _ _ p. Rest.chars (Chars.unescaped g (of_chars p))))))
    (λ g. rw g (is_stuck all))))))
rest_reads Pending.escape (b ∷ s) =
    by_test (is_short b)
    (λ e. rw (e, read_chars)
    (reads_within (after all) (reads_prepend (byte (short_value b)) (rest_reads Pending.char s) (λ _ _ p. Rest.short e (of_chars p)))))
    (λ e. rw (e, read_chars)
    (by_test (eqb b 0x75)
    (λ f. rw f (reads_after (λ _ _ p. Rest.unicode (eqb-true b 0x75 f) p) (rest_reads (Pending.hex 3 0) s)))
    (λ f. rw f (is_stuck all))))
rest_reads (Pending.hex zero n) (b ∷ s) =
    by_test (is_hex b)
    (λ e. rw (e, read_chars)
    (reads_within (after all) (reads_prepend (unit (n * 16 + hex_value b)) (rest_reads Pending.char s) (λ _ _ p. Rest.last e (of_chars p)))))
    (λ e. rw (e, read_chars) (is_stuck all))
rest_reads (Pending.hex (suc k) n) (b ∷ s) =
    by_test (is_hex b)
    (λ e. rw (e, read_chars) (reads_after (λ _ _ p. Rest.next e p) (rest_reads (Pending.hex k (n * 16 + hex_value b)) s)))
    (λ e. rw (e, read_chars) (is_stuck all))

-- Reading the chars of a string finds them by the grammar, or is stuck at an end of the text.
pub chars_reads : (s : List ℕ) → Reads Chars s (read_chars Pending.char s)
chars_reads s = answer_map (λ _ _ p. of_chars p) (λ _ p. p) (rest_reads Pending.char s)

-- Reading a string finds one by the grammar, or is stuck at an end of the text.
pub string_reads : (s : List ℕ) → Reads String s (read_string s)
unfolding read_string
string_reads [] = is_stuck all
string_reads (b ∷ s) =
    by_test (eqb b 0x22)
    (λ e. rw (e, read_string) (reads_after (λ _ _ p. String.quoted (eqb-true b 0x22 e) p) (chars_reads s)))
    (λ e. rw (e, read_string) (is_stuck all))

-- A string that is found is one by the grammar, with the same rest.
pub string_sound : (s : List ℕ) (cs : List Char) (r : List ℕ) → read_string s ≡ found cs r → String s cs r
string_sound s cs r e = answer_found (string_reads s) e

-- values that hold no others

module _ (b : ℕ) (s : List ℕ) where
  name_reads : (w : ℕ) (ws : List ℕ) {t : Syntax} → ((r : List ℕ) → Word (w ∷ ws) (b ∷ s) r → Scalar (b ∷ s) t r) → eqb b w ≡ true
      → Reads Scalar (b ∷ s) (and_then (read_word ws s) (λ _ r. found t r))
  name_reads w ws {t} k e =
      reads_within (after all) (reads_as (λ _. t) (word_reads ws s) (λ _ r p. k r (Word.more (eqb-true b w e) p)))

  -- In a text with a first byte, reading a value, no array or object, finds one by the grammar, or is stuck at an end of it.
  pub scalar_reads_cons : Reads Scalar (b ∷ s) (read_scalar (b ∷ s))
  unfolding read_scalar
  scalar_reads_cons =
      by_test (eqb b 0x22)
      (λ e. rw (e, read_scalar) (reads_within (after all)
      (reads_as (λ cs. string (b ∷ s) cs) (chars_reads s) (λ _ _ p. Scalar.is_a_string (String.quoted (eqb-true b 0x22 e) p)))))
      (λ e. rw (e, read_scalar)
      (by_test (eqb b 0x6E) (λ f. rw f (name_reads _ _ (λ _ p. Scalar.is_null p) f)) (λ f. rw f
      (by_test (eqb b 0x74) (λ g. rw g (name_reads _ _ (λ _ p. Scalar.is_true p) g)) (λ g. rw g
      (by_test (eqb b 0x66) (λ h. rw h (name_reads _ _ (λ _ p. Scalar.is_false p) h)) (λ h. rw h
      (reads_as (λ n. number (b ∷ s) n) (number_reads (b ∷ s)) (λ _ _ p. Scalar.is_a_number p)))))))))

-- The same for every text.
pub scalar_reads : (s : List ℕ) → Reads Scalar s (read_scalar s)
unfolding read_scalar
scalar_reads [] = is_stuck all
scalar_reads (b ∷ s) = scalar_reads_cons b s

-- arrays and objects: the items that the relation `Item` and the function `item` agree on

module _ {A : Type 0} {Item : List ℕ → A → List ℕ → Type 0} {item : List ℕ → Read A} (mark : ℕ)
    (item_reads : (s : List ℕ) → Reads Item s (item s)) (item_ends : (s : List ℕ) (x : A) (r : List ℕ) → Item s x r → Ends r s) where
  after_item_reads : (more : List ℕ → Read (List A)) → ((s : List ℕ) → Reads (Items Item mark) s (more s)) → (s s₁ s₂ : List ℕ) (t : A)
      → Item s t s₁ → Space s₁ s₂ → Answer (Items Item mark s) (λ r. Ends r s₂) (after_item more mark t s₂)
  unfolding after_item
  after_item_reads more reads s s₁ [] t p q = is_stuck all
  after_item_reads more reads s s₁ (b ∷ s₂) t p q =
      by_test (eqb b mark) (λ e. rw (e, after_item) (is_found (Items.last p q (Word.more (eqb-true b mark e) Word.end)))) (λ e. rw (e, after_item)
      (by_test (eqb b 0x2C)
      (λ f. rw f (reads_within (after (space_ends (spaces_sound s₂))) (reads_prepend t (reads (spaces s₂))
      (λ _ _ h. Items.next p q (Word.more (eqb-true b 0x2C f) Word.end) (spaces_sound s₂) h))))
      (λ f. rw f (is_stuck all))))

  -- Under these conditions on an item, reading items and their end mark finds them by the grammar, or is stuck at an end of the text.
  pub items_reads : (n : ℕ) (s : List ℕ) → Reads (Items Item mark) s (read_items item mark n s)
  unfolding read_items
  items_reads zero s = is_stuck all
  items_reads (suc n) s =
      reads_then (item_reads s) (item_ends s) (λ t s₁ p.
      reads_within (space_ends (spaces_sound s₁)) (after_item_reads _ (items_reads n) s s₁ (spaces s₁) t p (spaces_sound s₁)))

  -- Under these conditions, reading items or none after white space finds a list by the grammar, or is stuck at an end of the text.
  pub first_reads : (s₀ s : List ℕ) → Space s₀ s → Answer (Listed Item mark s₀) (λ r. Ends r s) (read_first item mark s)
  unfolding read_first
  first_reads s₀ [] p = is_stuck all
  first_reads s₀ (b ∷ s) p =
      by_test (eqb b mark)
      (λ e. rw (e, read_first) (is_found (Listed.empty p (Word.more (eqb-true b mark e) Word.end))))
      (λ e. rw (e, read_first) (answer_map (λ _ _ h. Listed.items p h) (λ _ h. h) (items_reads (length (b ∷ s)) (b ∷ s))))

  -- Under these conditions, reading white space, items or none, and the end mark finds them by the grammar, or is stuck at an end.
  pub listed_reads : (s : List ℕ) → Reads (Listed Item mark) s (read_listed item mark s)
  unfolding read_listed
  listed_reads s = reads_within (space_ends (spaces_sound s)) (first_reads s (spaces s) (spaces_sound s))

module _ {Inner : List ℕ → Syntax → List ℕ → Type 0} {inner : List ℕ → Read Syntax}
    (inner_reads : (s : List ℕ) → Reads Inner s (inner s)) (inner_ends : (s : List ℕ) (t : Syntax) (r : List ℕ) → Inner s t r → Ends r s) where
  -- Under these conditions on inner values, reading a member finds one by the grammar, or is stuck at an end of the text.
  pub pair_reads : (s : List ℕ) → Reads (Pair Inner) s (read_pair inner s)
  unfolding read_pair
  pair_reads s =
      reads_then (string_reads s) (λ _ _ p. inside_ends (string_inside p)) (λ cs s₁ p.
      reads_within (space_ends (spaces_sound s₁)) (reads_then (word_reads (0x3A ∷ []) (spaces s₁)) (λ _ _ q. word_ends q) (λ _ s₂ q.
      reads_within (space_ends (spaces_sound s₂)) (reads_as (λ t. record { place = s; key = cs; value = t }) (inner_reads (spaces s₂)) (λ t r h.
      Pair.pair p (spaces_sound s₁) q (spaces_sound s₂) h)))))

  -- Under these conditions, a member that is found is one by the grammar, with the same rest.
  pub pair_sound : (s : List ℕ) (m : Member) (r : List ℕ) → read_pair inner s ≡ found m r → Pair Inner s m r
  pair_sound s m r e = answer_found (pair_reads s) e

  nested_reads_cons : (b : ℕ) (s : List ℕ) → Reads (Nested Inner) (b ∷ s) (read_nested inner (b ∷ s))
  unfolding read_nested
  nested_reads_cons b s =
      by_test (eqb b 0x5B)
      (λ e. rw (e, read_nested) (reads_within (after all) (reads_as (λ ts. array (elements ts)) (listed_reads 0x5D inner_reads inner_ends s)
      (λ _ _ p. Nested.is_an_array (eqb-true b 0x5B e) p))))
      (λ e. rw (e, read_nested)
      (by_test (eqb b 0x7B)
      (λ f. rw f (reads_within (after all) (reads_as (λ ms. object (members ms)) (listed_reads 0x7D pair_reads (pair_ends inner_ends) s)
      (λ _ _ p. Nested.is_an_object (eqb-true b 0x7B f) p))))
      (λ f. rw f (answer_map (λ _ _ p. Nested.is_scalar p) (λ _ p. p) (scalar_reads (b ∷ s))))))

  -- Under these conditions, reading a value that may hold inner values finds one by the grammar, or is stuck at an end of the text.
  pub nested_reads : (s : List ℕ) → Reads (Nested Inner) s (read_nested inner s)
  unfolding read_nested
  nested_reads [] = is_stuck all
  nested_reads (b ∷ s) = nested_reads_cons b s

-- values

-- Reading a value of bounded depth finds one by the grammar, or is stuck at an end of the text.
pub value_reads : (d : ℕ) (s : List ℕ) → Reads (Value d) s (read d s)
unfolding read
value_reads zero s = scalar_reads s
value_reads (suc d) s = nested_reads (value_reads d) (value_ends d) s

-- A value of bounded depth that is found is one by the grammar, with the same rest.
pub read_sound : (d : ℕ) (s : List ℕ) (t : Syntax) (r : List ℕ) → read d s ≡ found t r → Value d s t r
read_sound d s t r e = answer_found (value_reads d s) e

-- a value has a byte
pub read_shorter : (d : ℕ) (s : List ℕ) (t : Syntax) (r : List ℕ) → read d s ≡ found t r → length r < length s
read_shorter d s t r e = inside_length (value_inside d s t r (read_sound d s t r e))
