-- Counting brackets, with strings passed whole, finds the end mark of an array or an object: a value opens as many as it closes.
use Prim.Native.Nat.{ℕ, zero, suc, ◌+◌, ◌-◌, ◌<◌, ◌≤◌}
use mathlib.Core.Path.{◌≡◌, refl, sym, ap, ◌∙◌}
use mathlib.Core.Logic.{◌⊎◌, inl, inr, ⊎_elim}
use mathlib.Core.List.{List, [], ◌∷◌}
use mathlib.Core.Bool.{Bool, true, false, not, ◌&&◌, and-eq-true_iff}
use native.Mathlib.Omega.{arith}
use lib.Dec.{eqb}
use lib.ListN.{length, drop, get_or, length-drop}
use borrow.Author.Tests.{ne_eqb, eqb-true}
use Rattle.text_json.specs.Bytes.{is_digit, is_exp, is_sign, is_space}
use Rattle.text_json.specs.Syntax.{Syntax, Char, Numeral, Member}
use Rattle.text_json.specs.Grammar.{Space, Word, Digits, SomeDigits, Int, Frac, Exp, Unsigned, Number, Chars, String, Scalar, Items, Listed, Pair, Nested}
use Rattle.text_json.specs.Grammar.{Value as Derives}
use Rattle.text_chars.specs.Measure.{every}
use Rattle.text_numbers.proofs.Numerals.{digit_range}
use Rattle.text_json.proofs.Grammar.Ends.{inside_length}
use Rattle.text_json.proofs.Grammar.Rests.{chars_inside}
use Rattle.text_json.proofs.Grammar.Bytes.{both_ways, or_cases, space_cases, exp_cases}
use Rattle.text_view.specs.Listed.{Tree, ListAt}
use Rattle.text_view.proofs.Values.{begins}

abbrev pub Opens : ℕ → Type 0
Opens b = (b ≡ 0x5B) ⊎ (b ≡ 0x7B)

abbrev pub Ends : ℕ → Type 0
Ends b = (b ≡ 0x5D) ⊎ (b ≡ 0x7D)

-- a byte that begins no string and is no bracket
unfoldable pub is_other : ℕ → Bool
is_other b = not (eqb b 0x22) && (not (eqb b 0x5B) && (not (eqb b 0x7B) && (not (eqb b 0x5D) && not (eqb b 0x7D))))

-- With o brackets open a list goes on until they are closed, and then as r.
pub data Closes : ℕ → List ℕ → List ℕ → Type 0 where
  done : {o : ℕ} {r : List ℕ} → o ≡ 0 → Closes o r r
  string : {o b : ℕ} {l m r : List ℕ} {cs : List Char} → 0 < o → b ≡ 0x22 → Chars l cs m → Closes o m r → Closes o (b ∷ l) r
  opens : {o b : ℕ} {l r : List ℕ} → 0 < o → Opens b → Closes (o + 1) l r → Closes o (b ∷ l) r
  ends : {o b : ℕ} {l r : List ℕ} → 0 < o → Ends b → Closes (o - 1) l r → Closes o (b ∷ l) r
  other : {o b : ℕ} {l r : List ℕ} → 0 < o → is_other b ≡ true → Closes o l r → Closes o (b ∷ l) r

-- Between l and m as many brackets are opened as closed.
abbrev Passes : List ℕ → List ℕ → Type 0
Passes l m = (o : ℕ) (r : List ℕ) → 0 < o → Closes o m r → Closes o l r

is_other_byte : (b : ℕ) → (b ≡ 0x22 → ⊥) → (b ≡ 0x5B → ⊥) → (b ≡ 0x7B → ⊥) → (b ≡ 0x5D → ⊥) → (b ≡ 0x7D → ⊥) → is_other b ≡ true
unfolding is_other
is_other_byte b q a o c e = rw (ne_eqb b 0x22 q, ne_eqb b 0x5B a, ne_eqb b 0x7B o, ne_eqb b 0x5D c, ne_eqb b 0x7D e)

digit_other : (b : ℕ) → is_digit b ≡ true → is_other b ≡ true
digit_other b e =
    let h = digit_range b e in
    is_other_byte b (λ f. omega arith) (λ f. omega arith) (λ f. omega arith) (λ f. omega arith) (λ f. omega arith)

space_other : (b : ℕ) → is_space b ≡ true → is_other b ≡ true
unfolding is_other
space_other b e = space_cases (λ (x : ℕ). is_other x ≡ true) refl refl refl refl b e

exp_other : (b : ℕ) → is_exp b ≡ true → is_other b ≡ true
unfolding is_other
exp_other b e = exp_cases (λ (x : ℕ). is_other x ≡ true) refl refl b e

sign_other : (b : ℕ) → is_sign b ≡ true → is_other b ≡ true
unfolding is_other is_sign
sign_other b e = or_cases (eqb b 0x2D) (eqb b 0x2B) e (λ f. rw (eqb-true b 0x2D f)) (λ f. rw (eqb-true b 0x2B f))

-- what the grammar's parts pass

one_passes : {b : ℕ} {l m : List ℕ} → is_other b ≡ true → Passes l m → Passes (b ∷ l) m
one_passes e p o r h k = other h e (p o r h k)

space_passes : {l m : List ℕ} → Space l m → Passes l m
space_passes Space.end o r h k = k
space_passes (Space.more {b} e p) o r h k = other h (space_other b e) (space_passes p o r h k)

word_passes : {w l m : List ℕ} → every is_other w ≡ true → Word w l m → Passes l m
unfolding every
word_passes e Word.end o r h k = k
word_passes e (Word.more {w} {ws = ws} f p) o r h k =
    let q = (and-eq-true_iff (is_other w) (every is_other ws)).0 e in
    other h (ap is_other f ∙ q.0) (word_passes q.1 p o r h k)

digits_passes : {l ds m : List ℕ} → Digits l ds m → Passes l m
digits_passes Digits.end o r h k = k
digits_passes (Digits.more {b} e p) o r h k = other h (digit_other b e) (digits_passes p o r h k)

some_digits_passes : {l m : List ℕ} → SomeDigits l m → Passes l m
some_digits_passes (SomeDigits.digits {b} e p) = one_passes (digit_other b e) (digits_passes p)

int_passes : {l ds m : List ℕ} → Int l ds m → Passes l m
unfolding is_other
int_passes (Int.lone_zero e) o r h k = other h (ap is_other e) k
int_passes (Int.from_nonzero {b} e f p) o r h k = other h (digit_other b e) (digits_passes p o r h k)

frac_passes : {l m : List ℕ} {f : Bool} → Frac l f m → Passes l m
unfolding is_other
frac_passes Frac.absent o r h k = k
frac_passes (Frac.present e p) o r h k = other h (ap is_other e) (some_digits_passes p o r h k)

exp_passes : {l m : List ℕ} {f : Bool} → Exp l f m → Passes l m
exp_passes Exp.absent o r h k = k
exp_passes (Exp.unsigned {b} e p) o r h k = other h (exp_other b e) (some_digits_passes p o r h k)
exp_passes (Exp.signed {b} {c} e f p) o r h k = other h (exp_other b e) (other h (sign_other c f) (some_digits_passes p o r h k))

unsigned_passes : {negative : Bool} {l m : List ℕ} {n : Numeral} → Unsigned negative l n m → Passes l m
unsigned_passes (Unsigned.unsigned p q e) o r h k = int_passes p o r h (frac_passes q o r h (exp_passes e o r h k))

number_passes_is : {l m : List ℕ} {n : Numeral} → Number l n m → Passes l m
unfolding is_other
number_passes_is (Number.plain p) o r h k = unsigned_passes p o r h k
number_passes_is (Number.minus e p) o r h k = other h (ap is_other e) (unsigned_passes p o r h k)

string_passes : {l m : List ℕ} {cs : List Char} → String l cs m → Passes l m
string_passes (String.quoted e p) o r h k = string h e p k

scalar_passes : {l m : List ℕ} {t : Syntax} → Scalar l t m → Passes l m
unfolding is_other every
scalar_passes (Scalar.is_null p) = word_passes refl p
scalar_passes (Scalar.is_true p) = word_passes refl p
scalar_passes (Scalar.is_false p) = word_passes refl p
scalar_passes (Scalar.is_a_number p) = number_passes_is p
scalar_passes (Scalar.is_a_string p) = string_passes p

comma_passes : {l m : List ℕ} → Word (0x2C ∷ []) l m → Passes l m
unfolding is_other every
comma_passes p = word_passes refl p

colon_passes : {l m : List ℕ} → Word (0x3A ∷ []) l m → Passes l m
unfolding is_other every
colon_passes p = word_passes refl p

-- an end mark closes one bracket
mark_ends : {mark : ℕ} {l m : List ℕ} → Ends mark → Word (mark ∷ []) l m → (o : ℕ) (r : List ℕ) → Closes o m r → Closes (o + 1) l r
mark_ends e (Word.more {b} {s = m} f Word.end) o r k =
    let z : o + 1 - 1 ≡ o = omega arith in
    let g : Ends b = rw f e in
    let h : 0 < o + 1 = omega arith in
    let j : Closes (o + 1 - 1) m r = rw z k in
    ends h g j

module _ {A : Type 0} {Item : List ℕ → A → List ℕ → Type 0} (item_passes : (l : List ℕ) (t : A) (m : List ℕ) → Item l t m → Passes l m)
    {mark : ℕ} (end : Ends mark) where
  items_end : {l m : List ℕ} {ts : List A} → Items Item mark l ts m → (o : ℕ) (r : List ℕ) → Closes o m r → Closes (o + 1) l r
  items_end (Items.last p q w) o r k =
      let h : 0 < o + 1 = omega arith in
      item_passes _ _ _ p (o + 1) r h (space_passes q (o + 1) r h (mark_ends end w o r k))
  items_end (Items.next p q w i j) o r k =
      let h : 0 < o + 1 = omega arith in
      item_passes _ _ _ p (o + 1) r h (space_passes q (o + 1) r h (comma_passes w (o + 1) r h (space_passes i (o + 1) r h (items_end j o r k))))

  listed_end : {l m : List ℕ} {ts : List A} → Listed Item mark l ts m → (o : ℕ) (r : List ℕ) → Closes o m r → Closes (o + 1) l r
  listed_end (Listed.empty p w) o r k = space_passes p (o + 1) r (omega arith) (mark_ends end w o r k)
  listed_end (Listed.items p q) o r k = space_passes p (o + 1) r (omega arith) (items_end q o r k)

module _ {Inner : List ℕ → Syntax → List ℕ → Type 0} (inner_passes : (l : List ℕ) (t : Syntax) (m : List ℕ) → Inner l t m → Passes l m) where
  pair_passes : (l : List ℕ) (x : Member) (m : List ℕ) → Pair Inner l x m → Passes l m
  pair_passes l x m (Pair.pair p q w i j) o r h k =
      string_passes p o r h (space_passes q o r h (colon_passes w o r h (space_passes i o r h (inner_passes _ _ _ j o r h k))))

  nested_passes : (l : List ℕ) (t : Syntax) (m : List ℕ) → Nested Inner l t m → Passes l m
  nested_passes l t m (Nested.is_scalar p) o r h k = scalar_passes p o r h k
  nested_passes l t m (Nested.is_an_array e p) o r h k = opens h (inl e) (listed_end inner_passes (inl refl) p o r k)
  nested_passes l t m (Nested.is_an_object e p) o r h k = opens h (inr e) (listed_end pair_passes (inr refl) p o r k)

value_passes : (d : ℕ) (l : List ℕ) (t : Syntax) (m : List ℕ) → Derives d l t m → Passes l m
value_passes zero l t m p = scalar_passes p
value_passes (suc d) l t m p = nested_passes (value_passes d) l t m p

-- the items of an array or an object and their end mark close the one bracket that is open before them
pub list_closes : (s : List ℕ) (at d : ℕ) (object : Bool) (ts : List (Tree object)) (r : List ℕ) → ListAt s at d object ts r → Closes 1 (drop at s) r
list_closes s at d false ts r h = listed_end (value_passes d) (inl refl) h 0 r (done refl)
list_closes s at d true ts r h = listed_end (pair_passes (value_passes d)) (inr refl) h 0 r (done refl)

-- A text that closes `o` open brackets has at least `o` bytes.
pub closes_length : {o : ℕ} {l r : List ℕ} → Closes o l r → o ≤ length l
closes_length (done e) = omega arith
closes_length (string h e c k) = omega (arith, inside_length (chars_inside c), closes_length k)
closes_length (opens h e k) = omega (arith, closes_length k)
closes_length (ends h e k) = omega (arith, closes_length k)
closes_length (other h e k) = omega (arith, closes_length k)

-- Where no bracket is open, the text after closing all brackets is the text itself.
pub closed : {o : ℕ} {l r : List ℕ} → o ≡ 0 → Closes o l r → r ≡ l
closed e (done f) = refl
closed e (string h f c k) = absurd (omega arith)
closed e (opens h f k) = absurd (omega arith)
closed e (ends h f k) = absurd (omega arith)
closed e (other h f k) = absurd (omega arith)

-- the cases at position i, by the byte b there
data At (s : List ℕ) (i o b : ℕ) (r : List ℕ) : Type 0 where
  at_string : (cs : List Char) (m : List ℕ) → b ≡ 0x22 → Chars (drop (i + 1) s) cs m → Closes o m r → At s i o b r
  at_open : Opens b → Closes (o + 1) (drop (i + 1) s) r → At s i o b r
  at_the_end : Ends b → Closes (o - 1) (drop (i + 1) s) r → At s i o b r
  at_other : is_other b ≡ true → Closes o (drop (i + 1) s) r → At s i o b r

at_of : (s : List ℕ) (i o : ℕ) (l r : List ℕ) → drop i s ≡ l → 0 < o → Closes o l r → At s i o (get_or s i 0) r
at_of s i o l r e n (done f) = absurd (omega arith)
at_of s i o l r e n (string {b = b} {l = x} {m = m} {cs = cs} h f c k) =
    let g = begins s i b x e in at_string cs m (g.byte ∙ f) (rw g.next c) k
at_of s i o l r e n (opens {b = b} {l = x} h f k) = let g = begins s i b x e in at_open (rw g.byte f) (rw g.next k)
at_of s i o l r e n (ends {b = b} {l = x} h f k) = let g = begins s i b x e in at_the_end (rw g.byte f) (rw g.next k)
at_of s i o l r e n (other {b = b} {l = x} h f k) = let g = begins s i b x e in at_other (rw g.byte f) (rw g.next k)

-- a byte stands in one case only
other_apart : {C : Type 0} (b c : ℕ) → is_other b ≡ true → b ≡ c → is_other c ≡ false → C
other_apart b c e f g = both_ways (ap is_other (sym f) ∙ e) g

opens_apart : {C : Type 0} (b : ℕ) → Opens b → Ends b → C
opens_apart b e f = ⊎_elim (λ x. ⊎_elim (λ y. absurd (omega arith)) (λ y. absurd (omega arith)) f)
    (λ x. ⊎_elim (λ y. absurd (omega arith)) (λ y. absurd (omega arith)) f) e

quote_apart : {C : Type 0} (b : ℕ) → b ≡ 0x22 → Opens b ⊎ Ends b → C
quote_apart b q e = ⊎_elim (⊎_elim (λ x. absurd (omega arith)) (λ x. absurd (omega arith))) (⊎_elim (λ x. absurd (omega arith)) (λ x. absurd (omega arith))) e

other_no_mark : {C : Type 0} (b : ℕ) → is_other b ≡ true → Opens b ⊎ Ends b → C
unfolding is_other
other_no_mark b e m = ⊎_elim (⊎_elim (λ x. other_apart b 0x5B e x refl) (λ x. other_apart b 0x7B e x refl))
    (⊎_elim (λ x. other_apart b 0x5D e x refl) (λ x. other_apart b 0x7D e x refl)) m

-- what is left after the byte at position i, with some brackets open
module _ (s : List ℕ) (i o : ℕ) (r : List ℕ) (some : 0 < o) (left : Closes o (drop i s) r) where
  here : At s i o (get_or s i 0) r
  here = at_of s i o (drop i s) r refl some left

  -- Where a bracket is open, the position is below the text's length.
  pub left_within : i < length s
  left_within = omega (arith, length-drop i s, closes_length left)

  -- At a quotation mark a string begins, and after it as many brackets are still to be closed.
  pub left_string : get_or s i 0 ≡ 0x22 → (cs : List Char) × (m : List ℕ) × Chars (drop (i + 1) s) cs m × Closes o m r
  unfolding is_other
  left_string q = go here
    where
      go : At s i o (get_or s i 0) r → (cs : List Char) × (m : List ℕ) × Chars (drop (i + 1) s) cs m × Closes o m r
      go (at_string cs m e c k) = (cs, m, c, k)
      go (at_open e k) = quote_apart _ q (inl e)
      go (at_the_end e k) = quote_apart _ q (inr e)
      go (at_other e k) = other_apart _ 0x22 e q refl

  -- After an opening bracket one bracket more is to be closed.
  pub left_open : Opens (get_or s i 0) → Closes (o + 1) (drop (i + 1) s) r
  left_open m = go here
    where
      go : At s i o (get_or s i 0) r → Closes (o + 1) (drop (i + 1) s) r
      go (at_string cs l e c k) = quote_apart _ e (inl m)
      go (at_open e k) = k
      go (at_the_end e k) = opens_apart _ m e
      go (at_other e k) = other_no_mark _ e (inl m)

  -- After a closing bracket one bracket fewer is to be closed.
  pub left_end : Ends (get_or s i 0) → Closes (o - 1) (drop (i + 1) s) r
  left_end m = go here
    where
      go : At s i o (get_or s i 0) r → Closes (o - 1) (drop (i + 1) s) r
      go (at_string cs l e c k) = quote_apart _ e (inr m)
      go (at_open e k) = opens_apart _ e m
      go (at_the_end e k) = k
      go (at_other e k) = other_no_mark _ e (inr m)

  -- After a byte that is no quotation mark and no bracket, as many brackets are still to be closed.
  pub left_other : (get_or s i 0 ≡ 0x22 → ⊥) → (Opens (get_or s i 0) → ⊥) → (Ends (get_or s i 0) → ⊥) → Closes o (drop (i + 1) s) r
  left_other q a b = go here
    where
      go : At s i o (get_or s i 0) r → Closes o (drop (i + 1) s) r
      go (at_string cs l e c k) = absurd (q e)
      go (at_open e k) = absurd (a e)
      go (at_the_end e k) = absurd (b e)
      go (at_other e k) = k
