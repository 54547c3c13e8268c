-- What is in the grammar is read. The grammar leaves open where a number ends, and reading takes the longest one: so a value is read
-- where the text after it does not go on as a number does.
use Prim.Native.Nat.{ℕ, zero, suc, ◌≤◌}
use native.Mathlib.Nat.{zero-add}
use native.Mathlib.Omega.{arith}
use mathlib.Core.Path.{◌≡◌, refl}
use mathlib.Core.List.{List, [], ◌∷◌}
use mathlib.Core.Bool.{Bool, true, false, ◌||◌}
use lib.ListN.{length}
use lib.Dec.{eqb}
use borrow.Author.Tests.{eq-eqb, ne_eqb}
use Rattle.text_json.specs.Bytes.{between, is_space, is_digit, is_point, is_exp, is_sign, hex_value, is_unescaped, is_short}
use Rattle.text_json.specs.Syntax.{Char, Numeral, Syntax, number, Member}
use Rattle.text_json.specs.Grammar.{hex_number, Space, Word, Digits, SomeDigits, Int, Frac, Exp, Unsigned, Number, Chars, String, Scalar, Items, Listed}
use Rattle.text_json.specs.Grammar.{Pair, Nested, Value, starts, Stops}
use Rattle.text_json.specs.Read.{Read, found, and_then, spaces, read_word, digits_of, after_digits, read_some_digits, read_int, read_frac, read_signed, read_exp}
use Rattle.text_json.specs.Read.{read_unsigned, read_number, Pending, prepend, read_chars, read_string, read_scalar, after_item, read_items, read_first}
use Rattle.text_json.specs.Read.{read_listed, read_pair, read_nested, read}
use Rattle.text_json.proofs.Grammar.Ends.{Inside, inside_ends, ends_length, inside_length}
use Rattle.text_json.proofs.Grammar.Answer.{by_test}
use Rattle.text_json.proofs.Grammar.Rests.{space_ends, word_ends, pair_inside, value_inside}
use Rattle.text_json.proofs.Grammar.Bytes.{both_ways, space_cases, exp_cases, apart}

-- The empty text does not go on as a number does.
pub end_stops : Stops []
end_stops = record { no_digit = refl; no_point = refl; no_exp = refl }

-- spaces, words and digits

-- Of a text that begins with no white space, none is skipped.
pub spaces_none : (s : List ℕ) → starts is_space s ≡ false → spaces s ≡ s
unfolding spaces
spaces_none [] h = refl
spaces_none (b ∷ s) h = rw (h, spaces)

-- Skipping white space leaves what the grammar leaves after it, if that begins with no white space.
pub spaces_complete : {s r : List ℕ} → Space s r → starts is_space r ≡ false → spaces s ≡ r
unfolding spaces
spaces_complete {s} Space.end h = spaces_none s h
spaces_complete (Space.more e p) h = rw (e, spaces) (spaces_complete p h)

-- A word that a text begins with by the grammar is found, with the same rest.
pub word_complete : {w s r : List ℕ} → Word w s r → read_word w s ≡ found tt r
unfolding read_word
word_complete Word.end = refl
word_complete (Word.more {w} {b} e p) = rw (eq-eqb b w e, read_word) (word_complete p)

-- The digits that a text begins with by the grammar are those that are read, with the same rest, if no digit follows.
pub digits_complete : {s ds r : List ℕ} → Digits s ds r → starts is_digit r ≡ false → (digits_of s ≡ ds) × (after_digits s ≡ r)
unfolding digits_of after_digits
digits_complete {s} Digits.end h = none s h
  where
    none : (s : List ℕ) → starts is_digit s ≡ false → (digits_of s ≡ []) × (after_digits s ≡ s)
    none [] h = (refl, refl)
    none (b ∷ s) h = (rw (h, digits_of), rw (h, after_digits))
digits_complete (Digits.more e p) h =
    let (d, a) = digits_complete p h in
    (rw (e, digits_of) (cc d), rw (e, after_digits) a)

-- One digit or more by the grammar is found, with the same rest, if no digit follows.
pub some_digits_complete : {s r : List ℕ} → SomeDigits s r → starts is_digit r ≡ false → read_some_digits s ≡ found tt r
unfolding read_some_digits
some_digits_complete (SomeDigits.digits e p) h = rw (e, read_some_digits) (cc (digits_complete p h).1)

-- numbers

-- An integer part by the grammar is found, with the same digits and rest, if no digit follows.
pub int_complete : {s ds r : List ℕ} → Int s ds r → starts is_digit r ≡ false → read_int s ≡ found ds r
unfolding read_int
int_complete (Int.lone_zero {b} e) h = rw (eq-eqb b 0x30 e, read_int)
int_complete (Int.from_nonzero {b} e f p) h = rw (ne_eqb b 0x30 f, read_int) (rw e (cc ((digits_complete p h).0, (digits_complete p h).1)))

-- A fraction by the grammar, present or absent, is found, with the same rest, if no digit and no decimal point follows.
pub frac_complete : {s r : List ℕ} {f : Bool} → Frac s f r → starts is_digit r ≡ false → starts is_point r ≡ false → read_frac s ≡ found f r
unfolding read_frac and_then
frac_complete {s} Frac.absent h k = none s k
  where
    none : (s : List ℕ) → starts is_point s ≡ false → read_frac s ≡ found true s
    none [] k = refl
    none (b ∷ s) k = rw (k, read_frac)
frac_complete (Frac.present {b} e p) h k = rw (eq-eqb b 0x2E e, read_frac) (rw (some_digits_complete p h))

digit_unsigned : (b : ℕ) → is_digit b ≡ true → is_sign b ≡ false
unfolding is_sign is_digit between
digit_unsigned b e = rw (apart is_digit 0x2D b refl e, apart is_digit 0x2B b refl e)

signed_complete : {s r : List ℕ} → SomeDigits s r → starts is_digit r ≡ false → read_signed s ≡ found tt r
unfolding read_signed
signed_complete (SomeDigits.digits {b} e p) h = rw (digit_unsigned b e, read_signed) (some_digits_complete (SomeDigits.digits e p) h)

-- An exponent by the grammar, present or absent, is found, with the same rest, if no digit and no letter e or E follows.
pub exp_complete : {s r : List ℕ} {e : Bool} → Exp s e r → starts is_digit r ≡ false → starts is_exp r ≡ false → read_exp s ≡ found e r
unfolding read_exp and_then read_signed
exp_complete {s} Exp.absent h k = none s k
  where
    none : (s : List ℕ) → starts is_exp s ≡ false → read_exp s ≡ found true s
    none [] k = refl
    none (b ∷ s) k = rw (k, read_exp)
exp_complete (Exp.unsigned e p) h k = rw (e, read_exp) (rw (signed_complete p h))
exp_complete (Exp.signed e f p) h k = rw (e, read_exp) (rw (f, read_signed) (rw (some_digits_complete p h)))

-- what an option may begin with
frac_no_digit : {s r : List ℕ} {f : Bool} → Frac s f r → starts is_digit r ≡ false → starts is_digit s ≡ false
unfolding is_digit between
frac_no_digit Frac.absent h = h
frac_no_digit (Frac.present e p) h = rw e

exp_first : (p : ℕ → Bool) → p 0x65 ≡ false → p 0x45 ≡ false → {s r : List ℕ} {e : Bool} → Exp s e r → starts p r ≡ false → starts p s ≡ false
exp_first p x y Exp.absent h = h
exp_first p x y (Exp.unsigned {b} e q) h = exp_cases (λ c. p c ≡ false) x y b e
exp_first p x y (Exp.signed {b} e f q) h = exp_cases (λ c. p c ≡ false) x y b e

-- A number without its sign by the grammar is found, with the same rest, if that does not go on as a number does.
pub unsigned_complete : {negative : Bool} {s r : List ℕ} {n : Numeral} → Unsigned negative s n r → Stops r → read_unsigned negative s ≡ found n r
unfolding read_unsigned and_then is_digit between
unsigned_complete (Unsigned.unsigned p q e) h =
    let d = exp_first is_digit refl refl e h.no_digit in
    rw (int_complete p (frac_no_digit q d)) (rw (frac_complete q d (exp_first is_point refl refl e h.no_point))
    (rw (exp_complete e h.no_digit h.no_exp)))

int_first : {s ds r : List ℕ} → Int s ds r → starts is_digit s ≡ true
unfolding is_digit between
int_first (Int.lone_zero e) = rw e
int_first (Int.from_nonzero e f p) = e

number_plain : (s : List ℕ) → starts is_digit s ≡ true → read_number s ≡ read_unsigned false s
unfolding read_number is_digit between
number_plain [] h = both_ways h refl
number_plain (b ∷ s) h = rw (apart is_digit 0x2D b refl h, read_number)

unsigned_first : {negative : Bool} {s r : List ℕ} {n : Numeral} → Unsigned negative s n r → starts is_digit s ≡ true
unsigned_first (Unsigned.unsigned p q e) = int_first p

-- A number by the grammar is found, with the same rest, if that does not go on as a number does.
pub number_complete : {s r : List ℕ} {n : Numeral} → Number s n r → Stops r → read_number s ≡ found n r
unfolding read_number
number_complete {s} (Number.plain p) h = rw (number_plain s (unsigned_first p)) (unsigned_complete p h)
number_complete (Number.minus {b} e p) h = rw (eq-eqb b 0x2D e, read_number) (unsigned_complete p h)

-- strings

-- The chars of a string and its closing quotation mark by the grammar are found, with the same rest.
pub chars_complete : {s r : List ℕ} {cs : List Char} → Chars s cs r → read_chars Pending.char s ≡ found cs r
unfolding read_chars prepend is_unescaped is_short hex_number
chars_complete (Chars.close {q} e) = rw (eq-eqb q 0x22 e, read_chars)
chars_complete (Chars.unescaped {b} e p) =
    rw (apart is_unescaped 0x22 b refl e, read_chars) (rw (apart is_unescaped 0x5C b refl e) (rw e (rw (chars_complete p))))
chars_complete (Chars.short e f p) = rw e (rw (f, read_chars) (rw (chars_complete p)))
chars_complete (Chars.hex {a = a₁} e u a b c d p) =
    rw (e, u) (rw (a, read_chars) (rw (b, read_chars) (rw (c, read_chars) (rw (d, read_chars) (rw (chars_complete p) (rw (zero-add (hex_value a₁))))))))

-- A string by the grammar is found, with the same rest.
pub string_complete : {s r : List ℕ} {cs : List Char} → String s cs r → read_string s ≡ found cs r
unfolding read_string
string_complete (String.quoted {q} e p) = rw (eq-eqb q 0x22 e, read_string) (chars_complete p)

-- the first bytes of values

-- of a number
unfoldable pub is_numeric : ℕ → Bool
is_numeric b = is_digit b || eqb b 0x2D

-- of a value that holds no other
unfoldable pub is_plain : ℕ → Bool
is_plain b = is_numeric b || (eqb b 0x22 || (eqb b 0x6E || (eqb b 0x74 || eqb b 0x66)))

unfoldable pub is_first : ℕ → Bool
is_first b = is_plain b || (eqb b 0x5B || eqb b 0x7B)

starts_map : (p q : ℕ → Bool) → ((b : ℕ) → p b ≡ true → q b ≡ true) → (s : List ℕ) → starts p s ≡ true → starts q s ≡ true
starts_map p q f [] h = h
starts_map p q f (b ∷ s) h = f b h

-- If two sets have no byte in common, a text that begins with a byte of the first begins with none of the second.
pub starts_apart : (p q : ℕ → Bool) → ((b : ℕ) → p b ≡ true → q b ≡ false) → (s : List ℕ) → starts p s ≡ true → starts q s ≡ false
starts_apart p q f [] h = refl
starts_apart p q f (b ∷ s) h = f b h

number_first : {s r : List ℕ} {n : Numeral} → Number s n r → starts is_numeric s ≡ true
unfolding is_numeric is_digit between
number_first {s} (Number.plain p) = starts_map is_digit is_numeric (λ b e. rw e) s (unsigned_first p)
number_first (Number.minus e p) = rw e

scalar_first : {s r : List ℕ} {t : Syntax} → Scalar s t r → starts is_plain s ≡ true
unfolding is_plain is_numeric is_digit between
scalar_first (Scalar.is_null (Word.more e p)) = rw e
scalar_first (Scalar.is_true (Word.more e p)) = rw e
scalar_first (Scalar.is_false (Word.more e p)) = rw e
scalar_first {s} (Scalar.is_a_number p) = starts_map is_numeric is_plain (λ b e. rw e) s (number_first p)
scalar_first (Scalar.is_a_string (String.quoted e p)) = rw e

-- A string begins with one of the bytes that begin values.
pub string_begins : {s r : List ℕ} {cs : List Char} → String s cs r → starts is_first s ≡ true
unfolding is_first is_plain is_numeric is_digit between
string_begins (String.quoted e p) = rw e

nested_first : {Inner : List ℕ → Syntax → List ℕ → Type 0} {s r : List ℕ} {t : Syntax} → Nested Inner s t r → starts is_first s ≡ true
unfolding is_first is_plain is_numeric is_digit between
nested_first {s} (Nested.is_scalar p) = starts_map is_plain is_first (λ b e. rw e) s (scalar_first p)
nested_first (Nested.is_an_array e p) = rw e
nested_first (Nested.is_an_object e p) = rw e

-- A value begins with a digit, a minus sign, a quotation mark, a letter n, t or f, or an opening bracket or brace.
pub value_first : (d : ℕ) (s : List ℕ) (t : Syntax) (r : List ℕ) → Value d s t r → starts is_first s ≡ true
unfolding is_first
value_first zero s t r p = starts_map is_plain is_first (λ b e. rw e) s (scalar_first p)
value_first (suc d) s t r p = nested_first p

-- A text that begins with one of the bytes that begin values begins with no white space.
pub first_no_space : (s : List ℕ) → starts is_first s ≡ true → starts is_space s ≡ false
unfolding is_first is_plain is_numeric is_digit between
first_no_space s h =
    starts_apart is_first is_space
    (λ b e. by_test (is_space b) (λ f. both_ways e (space_cases (λ c. is_first c ≡ false) refl refl refl refl b f)) (λ f. f)) s h

-- scalars

number_scalar : (s : List ℕ) → starts is_numeric s ≡ true → read_scalar s ≡ and_then (read_number s) (λ n r. found (number s n) r)
unfolding read_scalar is_numeric is_digit between
number_scalar [] h = both_ways h refl
number_scalar (b ∷ s) h =
    rw (apart is_numeric 0x22 b refl h, read_scalar) (rw (apart is_numeric 0x6E b refl h) (rw (apart is_numeric 0x74 b refl h)
    (rw (apart is_numeric 0x66 b refl h) refl)))

-- A value by the grammar, no array or object, is found, with the same rest, if that does not go on as a number does.
pub scalar_complete : {s r : List ℕ} {t : Syntax} → Scalar s t r → Stops r → read_scalar s ≡ found t r
unfolding read_scalar and_then
scalar_complete (Scalar.is_null (Word.more e p)) h = rw e (rw (word_complete p))
scalar_complete (Scalar.is_true (Word.more e p)) h = rw e (rw (word_complete p))
scalar_complete (Scalar.is_false (Word.more e p)) h = rw e (rw (word_complete p))
scalar_complete {s} (Scalar.is_a_number p) h = rw (number_scalar s (number_first p)) (rw (number_complete p h))
scalar_complete (Scalar.is_a_string (String.quoted {q} e p)) h = rw (eq-eqb q 0x22 e, read_scalar) (rw (chars_complete p))

-- what stands after an item: spaces, then a comma or the end mark

-- the end mark of an array or an object
pub record Closes (mark : ℕ) : Type 0 where
  pub no_first : is_first mark ≡ false
  pub no_space : is_space mark ≡ false
  pub no_comma : eqb 0x2C mark ≡ false
  pub stops : (r : List ℕ) → Stops (mark ∷ r)

-- A text that does not go on as a number does still does not with white space before it.
pub space_stops : {s r : List ℕ} → Space s r → Stops r → Stops s
unfolding is_digit is_exp between
space_stops Space.end h = h
space_stops (Space.more {b} {s} e p) h =
    let stops : (c : ℕ) → starts is_digit (c ∷ s) ≡ false → starts is_point (c ∷ s) ≡ false → starts is_exp (c ∷ s) ≡ false → Stops (c ∷ s)
    = λ c i j k. record { no_digit = i; no_point = j; no_exp = k } in
    space_cases (λ c. Stops (c ∷ s)) (stops 0x20 refl refl refl) (stops 0x0A refl refl refl) (stops 0x0D refl refl refl)
    (stops 0x09 refl refl refl) b e

-- A text that begins with a comma does not go on as a number does.
pub comma_stops : (r : List ℕ) → Stops (0x2C ∷ r)
unfolding is_digit is_exp between
comma_stops r = record { no_digit = refl; no_point = refl; no_exp = refl }

-- A comma is no white space.
pub comma_no_space : is_space 0x2C ≡ false
unfolding is_space
comma_no_space = refl

module _ {A : Type 0} {Item : List ℕ → A → List ℕ → Type 0} {item : List ℕ → Read A} (mark : ℕ) (closes : Closes mark)
    (complete : (s : List ℕ) (x : A) (r : List ℕ) → Item s x r → Stops r → item s ≡ found x r)
    (item_inside : (s : List ℕ) (x : A) (r : List ℕ) → Item s x r → Inside r s)
    (item_first : (s : List ℕ) (x : A) (r : List ℕ) → Item s x r → starts is_first s ≡ true) where
  items_first : {s r : List ℕ} {xs : List A} → Items Item mark s xs r → starts is_first s ≡ true
  items_first (Items.last p q h) = item_first _ _ _ p
  items_first (Items.next p q h i j) = item_first _ _ _ p

  last_complete : (n : ℕ) {s s₁ s₂ r : List ℕ} {x : A} → Item s x s₁ → Space s₁ s₂ → Word (mark ∷ []) s₂ r
      → read_items item mark (suc n) s ≡ found (x ∷ []) r
  unfolding read_items and_then after_item
  last_complete n p q (Word.more {b} e Word.end) =
      rw (complete _ _ _ p (space_stops q (rw e (closes.stops _))))
      (rw (spaces_complete q (rw e closes.no_space)) (rw (eq-eqb b mark e, after_item)))

  next_complete : (n : ℕ) {s s₁ s₂ s₃ s₄ r : List ℕ} {x : A} {xs : List A} → Item s x s₁ → Space s₁ s₂ → Word (0x2C ∷ []) s₂ s₃ → Space s₃ s₄
      → starts is_first s₄ ≡ true → read_items item mark n s₄ ≡ found xs r → read_items item mark (suc n) s ≡ found (x ∷ xs) r
  unfolding read_items and_then after_item prepend
  next_complete n {s₄} p q (Word.more {b} e Word.end) i f j =
      rw (complete _ _ _ p (space_stops q (rw e (comma_stops _)))) (rw (spaces_complete q (rw e comma_no_space)) (rw e
      (rw (closes.no_comma, after_item) (rw (spaces_complete i (first_no_space s₄ f)) (rw j)))))

  -- Under these conditions on an item and the end mark, items by the grammar are found, if the bound is at least the text's length.
  pub items_complete : {s r : List ℕ} {xs : List A} → Items Item mark s xs r → (n : ℕ) → length s ≤ n → read_items item mark n s ≡ found xs r
  items_complete (Items.last p q h) zero l = let i = inside_length (item_inside _ _ _ p) in absurd (omega arith)
  items_complete (Items.last p q h) (suc n) l = last_complete n p q h
  items_complete (Items.next p q h i j) zero l = let i = inside_length (item_inside _ _ _ p) in absurd (omega arith)
  items_complete (Items.next p q h i j) (suc n) l =
      let l₁ = inside_length (item_inside _ _ _ p) in
      let l₂ = ends_length (space_ends q) in
      let l₃ = ends_length (word_ends h) in
      let l₄ = ends_length (space_ends i) in
      next_complete n p q h i (items_first j) (items_complete j n (omega arith))

  first_items : (s : List ℕ) → starts is_first s ≡ true → read_first item mark s ≡ read_items item mark (length s) s
  unfolding read_first
  first_items [] h = both_ways h refl
  first_items (b ∷ s) h = rw (apart is_first mark b closes.no_first h, read_first)

  -- Under these conditions, white space, items or none, and the end mark by the grammar are found, with the same rest.
  pub listed_complete : {s r : List ℕ} {xs : List A} → Listed Item mark s xs r → read_listed item mark s ≡ found xs r
  unfolding read_listed read_first
  listed_complete (Listed.empty p (Word.more {b} e Word.end)) =
      rw (spaces_complete p (rw e closes.no_space)) (rw (eq-eqb b mark e, read_first))
  listed_complete (Listed.items {s₁} p q) =
      rw (spaces_complete p (first_no_space s₁ (items_first q))) (rw (first_items s₁ (items_first q)) (items_complete q (length s₁) (omega arith)))

-- A closing bracket begins no value, is neither white space nor a comma, and does not go on as a number does.
pub bracket_closes : Closes 0x5D
unfolding is_first is_plain is_numeric is_digit between is_space is_exp
bracket_closes =
    record { no_first = refl; no_space = refl; no_comma = refl; stops = λ r. record { no_digit = refl; no_point = refl; no_exp = refl } }

-- The same for a closing brace.
pub brace_closes : Closes 0x7D
unfolding is_first is_plain is_numeric is_digit between is_space is_exp
brace_closes =
    record { no_first = refl; no_space = refl; no_comma = refl; stops = λ r. record { no_digit = refl; no_point = refl; no_exp = refl } }

plain_nested : (inner : List ℕ → Read Syntax) (s : List ℕ) → starts is_plain s ≡ true → read_nested inner s ≡ read_scalar s
unfolding read_nested is_plain is_numeric is_digit between
plain_nested inner [] h = both_ways h refl
plain_nested inner (b ∷ s) h = rw (apart is_plain 0x5B b refl h, read_nested) (rw (apart is_plain 0x7B b refl h))

colon_no_space : is_space 0x3A ≡ false
unfolding is_space
colon_no_space = refl

module _ {Inner : List ℕ → Syntax → List ℕ → Type 0} {inner : List ℕ → Read Syntax}
    (complete : (s : List ℕ) (t : Syntax) (r : List ℕ) → Inner s t r → Stops r → inner s ≡ found t r)
    (inner_inside : (s : List ℕ) (t : Syntax) (r : List ℕ) → Inner s t r → Inside r s)
    (inner_first : (s : List ℕ) (t : Syntax) (r : List ℕ) → Inner s t r → starts is_first s ≡ true) where
  -- A member begins with one of the bytes that begin values.
  pub pair_first : (s : List ℕ) (m : Member) (r : List ℕ) → Pair Inner s m r → starts is_first s ≡ true
  pair_first s m r (Pair.pair p q h i j) = string_begins p

  -- Under these conditions on inner values, a member is found, if the text after it does not go on as a number does.
  pub pair_complete : (s : List ℕ) (m : Member) (r : List ℕ) → Pair Inner s m r → Stops r → read_pair inner s ≡ found m r
  unfolding read_pair and_then read_word
  pair_complete s m r (Pair.pair {s₄} p q (Word.more e Word.end) i j) h =
      rw (string_complete p) (rw (spaces_complete q (rw e colon_no_space)) (rw e
      (rw (spaces_complete i (first_no_space s₄ (inner_first _ _ _ j))) (rw (complete _ _ _ j h)))))

  -- The same for a value that may hold such inner values in arrays and objects.
  pub nested_complete : (s : List ℕ) (t : Syntax) (r : List ℕ) → Nested Inner s t r → Stops r → read_nested inner s ≡ found t r
  unfolding read_nested and_then
  nested_complete s t r (Nested.is_scalar p) h = rw (plain_nested inner s (scalar_first p)) (scalar_complete p h)
  nested_complete s t r (Nested.is_an_array e p) h = rw e (rw (listed_complete 0x5D bracket_closes complete inner_inside inner_first p))
  nested_complete s t r (Nested.is_an_object e p) h =
      rw e (rw (listed_complete 0x7D brace_closes pair_complete (pair_inside (λ s t r p. inside_ends (inner_inside s t r p))) pair_first p))

-- values

-- A value of bounded depth by the grammar is found, with the same rest, if that does not go on as a number does.
pub read_complete : (d : ℕ) (s : List ℕ) (t : Syntax) (r : List ℕ) → Value d s t r → Stops r → read d s ≡ found t r
unfolding read
read_complete zero s t r p h = scalar_complete p h
read_complete (suc d) s t r p h = nested_complete (read_complete d) (value_inside d) (value_first d) s t r p h
