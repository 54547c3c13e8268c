-- Where reading is stuck, what stands before that place is the start of a text that is in the grammar.
use Prim.Native.Nat.{ℕ, zero, suc, ◌*◌, ◌+◌}
use mathlib.Core.Path.{◌≡◌, refl}
use mathlib.Core.List.{List, [], ◌∷◌, ◌++◌}
use mathlib.Core.Bool.{Bool, true, false}
use lib.ListN.{length}
use lib.Dec.{eqb}
use borrow.Author.Tests.{eqb-true}
use Rattle.text_json.specs.Bytes.{between, is_digit, is_exp, is_sign, is_hex, hex_value, is_unescaped, is_short, short_value}
use Rattle.text_json.specs.Syntax.{Char, byte, unit, Numeral, Syntax, Member}
use Rattle.text_json.specs.Grammar.{Space, Word, Digits, SomeDigits, Int, Frac, Exp, Unsigned, Number, Chars, String, Scalar, Items, Listed, Pair, Nested}
use Rattle.text_json.specs.Grammar.{Value}
use Rattle.text_json.specs.Read.{Read, found, stuck, and_then, spaces, read_word, read_some_digits, read_int, read_frac, read_signed, read_exp, read_unsigned}
use Rattle.text_json.specs.Read.{read_number, Pending, prepend, read_chars, read_string, read_scalar, after_item, read_items, read_first, read_listed, read_pair}
use Rattle.text_json.specs.Read.{read_nested, read, at_end, read_text}
use Rattle.text_json.proofs.Grammar.Ends.{Ends}
use Rattle.text_json.proofs.Grammar.Rests.{value_ends}
use Rattle.text_json.proofs.Grammar.Answer.{Answer, is_found, is_stuck, Reads, by_test, answer_map}
use Rattle.text_json.proofs.Grammar.Sound.{spaces_sound, word_reads, int_reads, frac_reads, Rest, after_backslash, of_chars, string_reads, pair_reads}
use Rattle.text_json.proofs.Grammar.Sound.{value_reads}

-- s' is s with u for its end r
pub data Swap (r u : List ℕ) : List ℕ → List ℕ → Type 0 where
  here : Swap r u r u
  next : {b : ℕ} {s s' : List ℕ} → Swap r u s s' → Swap r u (b ∷ s) (b ∷ s')

swap_trans : {p p' r r' s s' : List ℕ} → Swap r r' s s' → Swap p p' r r' → Swap p p' s s'
swap_trans here w = w
swap_trans (next v) w = next (swap_trans v w)

-- parts of the grammar without their trees

pub data Has {A : Type 0} (R : List ℕ → A → List ℕ → Type 0) (s r : List ℕ) : Type 0 where
  has : {x : A} → R s x r → Has R s r

data Then (L M : List ℕ → List ℕ → Type 0) (s r : List ℕ) : Type 0 where
  then : {m : List ℕ} → L s m → M m r → Then L M s r

-- some text is an L followed by z
pub data Some (L : List ℕ → List ℕ → Type 0) (z : List ℕ) : Type 0 where
  some : {m : List ℕ} → L m z → Some L z

-- the start of s up to its end r, followed by z, is an L
data Again (L : List ℕ → List ℕ → Type 0) (s r z : List ℕ) : Type 0 where
  again : {s' : List ℕ} → Swap r z s s' → L s' z → Again L s r z

-- the start of s up to its end r can go on to an L followed by z
pub data Opened (L : List ℕ → List ℕ → Type 0) (s r z : List ℕ) : Type 0 where
  opened : {u s' : List ℕ} → Swap r u s s' → L s' z → Opened L s r z

abbrev pub Opens : {A : Type 0} → (List ℕ → List ℕ → Type 0) → List ℕ → Read A → Type 0
Opens L s y = Answer (λ _ _. Unit {0}) (λ r. (z : List ℕ) → Opened L s r z) y

-- how they are put together

module _ {L M : List ℕ → List ℕ → Type 0} where
  again_map : {s r z : List ℕ} → ((s : List ℕ) → L s z → M s z) → Again L s r z → Again M s r z
  again_map f (again w p) = again w (f _ p)

  again_next : {b : ℕ} {s r z : List ℕ} → ((s : List ℕ) → L s z → M (b ∷ s) z) → Again L s r z → Again M (b ∷ s) r z
  again_next f (again w p) = again (next w) (f _ p)

  again_join : {s m m' r z : List ℕ} → Again L s m m' → Swap r z m m' → M m' z → Again (Then L M) s r z
  again_join (again v p) w q = again (swap_trans v w) (then p q)

  again_then : {s m r z : List ℕ} → ((z : List ℕ) → Again L s m z) → Again M m r z → Again (Then L M) s r z
  again_then f (again {s'} w q) = again_join (f s') w q

  opened_map : {s r z : List ℕ} → ((s : List ℕ) → L s z → M s z) → Opened L s r z → Opened M s r z
  opened_map f (opened w p) = opened w (f _ p)

  opened_next : {b : ℕ} {s r z : List ℕ} → ((s : List ℕ) → L s z → M (b ∷ s) z) → Opened L s r z → Opened M (b ∷ s) r z
  opened_next f (opened w p) = opened (next w) (f _ p)

  opened_before : {s m r z : List ℕ} → Opened L s r m → M m z → Opened (Then L M) s r z
  opened_before (opened w p) q = opened w (then p q)

  opened_first : {s r z : List ℕ} → ((z : List ℕ) → Opened L s r z) → Some M z → Opened (Then L M) s r z
  opened_first f (some {m} q) = opened_before (f m) q

  opened_join : {s m m' r u z : List ℕ} → Again L s m m' → Swap r u m m' → M m' z → Opened (Then L M) s r z
  opened_join (again v p) w q = opened (swap_trans v w) (then p q)

  opened_then : {s m r z : List ℕ} → ((z : List ℕ) → Again L s m z) → Opened M m r z → Opened (Then L M) s r z
  opened_then f (opened {s'} w q) = opened_join (f s') w q

  opens_map : {A : Type 0} {s : List ℕ} {y : Read A} → ((s r : List ℕ) → L s r → M s r) → Opens L s y → Opens M s y
  opens_map f a = answer_map (λ _ _ h. h) (λ r k z. opened_map (λ s p. f s z p) (k z)) a

  opens_next : {A : Type 0} {b : ℕ} {s : List ℕ} {y : Read A} → ((s r : List ℕ) → L s r → M (b ∷ s) r) → Opens L s y → Opens M (b ∷ s) y
  opens_next f a = answer_map (λ _ _ h. h) (λ r k z. opened_next (λ s p. f s z p) (k z)) a

  opens_after : {A : Type 0} {s m : List ℕ} {y : Read A} → ((z : List ℕ) → Again L s m z) → Opens M m y → Opens (Then L M) s y
  opens_after f a = answer_map (λ _ _ h. h) (λ r k z. opened_then f (k z)) a

  opens_then : {A B : Type 0} {P : A → List ℕ → Type 0} {Q : List ℕ → Type 0} {s : List ℕ} {y : Read A} {f : A → List ℕ → Read B}
      → Answer P Q y → Opens L s y → ((z : List ℕ) → Some M z) → ((x : A) (r : List ℕ) → P x r → (z : List ℕ) → Again L s r z)
      → ((x : A) (r : List ℕ) → P x r → Opens M r (f x r)) → Opens (Then L M) s (and_then y f)
  unfolding and_then
  opens_then (is_found p) (is_found q) m k n = opens_after (k _ _ p) (n _ _ p)
  opens_then (is_stuck p) (is_stuck q) m k n = is_stuck (λ z. opened_first q (m z))

module _ {L : List ℕ → List ℕ → Type 0} where
  opened_here : {s z : List ℕ} → Some L z → Opened L s s z
  opened_here (some p) = opened here p

  opens_here : {A : Type 0} {s : List ℕ} → ((z : List ℕ) → Some L z) → Opens {A = A} L s (stuck s)
  opens_here f = is_stuck (λ z. opened_here (f z))

  opens_as : {A B : Type 0} {s : List ℕ} {y : Read A} (g : A → B) → Opens L s y → Opens L s (and_then y (λ x r. found (g x) r))
  unfolding and_then
  opens_as g (is_found p) = is_found tt
  opens_as g (is_stuck q) = is_stuck q

  opens_prepend : {A : Type 0} {s : List ℕ} {y : Read (List A)} (x : A) → Opens L s y → Opens L s (prepend x y)
  unfolding prepend
  opens_prepend x (is_found p) = is_found tt
  opens_prepend x (is_stuck q) = is_stuck q

-- a part that was found is found again before another rest

space_again : {s r : List ℕ} → Space s r → (z : List ℕ) → Again Space s r z
space_again Space.end z = again here Space.end
space_again (Space.more e p) z = again_next (λ _ q. Space.more e q) (space_again p z)

word_again : {w s r : List ℕ} → Word w s r → (z : List ℕ) → Again (Word w) s r z
word_again Word.end z = again here Word.end
word_again (Word.more e p) z = again_next (λ _ q. Word.more e q) (word_again p z)

digits_again : {s ds r : List ℕ} → Digits s ds r → (z : List ℕ) → Again (λ s r. Digits s ds r) s r z
digits_again Digits.end z = again here Digits.end
digits_again (Digits.more e p) z = again_next (λ _ q. Digits.more e q) (digits_again p z)

some_digits_again : {s r : List ℕ} → SomeDigits s r → (z : List ℕ) → Again SomeDigits s r z
some_digits_again (SomeDigits.digits e p) z = again_next (λ _ q. SomeDigits.digits e q) (digits_again p z)

int_again : {s ds r : List ℕ} → Int s ds r → (z : List ℕ) → Again (Has Int) s r z
int_again (Int.lone_zero e) z = again (next here) (has (Int.lone_zero e))
int_again (Int.from_nonzero e f p) z = again_next (λ _ q. has (Int.from_nonzero e f q)) (digits_again p z)

frac_again : {s r : List ℕ} {f : Bool} → Frac s f r → (z : List ℕ) → Again (Has Frac) s r z
frac_again Frac.absent z = again here (has Frac.absent)
frac_again (Frac.present e p) z = again_next (λ _ q. has (Frac.present e q)) (some_digits_again p z)

exp_again : {s r : List ℕ} {f : Bool} → Exp s f r → (z : List ℕ) → Again (Has Exp) s r z
exp_again Exp.absent z = again here (has Exp.absent)
exp_again (Exp.unsigned e p) z = again_next (λ _ q. has (Exp.unsigned e q)) (some_digits_again p z)
exp_again (Exp.signed {c} e f p) z =
    again_next (λ _ q. q) (again_next {M = λ s r. Has Exp (_ ∷ s) r} (λ _ q. has (Exp.signed e f q)) (some_digits_again p z))

to_unsigned : (negative : Bool) {s r : List ℕ} → Then (Has Int) (Then (Has Frac) (Has Exp)) s r → Has (Unsigned negative) s r
to_unsigned negative (then (has p) (then (has q) (has h))) = has (Unsigned.unsigned p q h)

unsigned_again : {negative : Bool} {s r : List ℕ} {n : Numeral} → Unsigned negative s n r → (z : List ℕ) → Again (Has (Unsigned negative)) s r z
unsigned_again {negative} (Unsigned.unsigned p q h) z =
    again_map (λ _ i. to_unsigned negative i) (again_then (int_again p) (again_then (frac_again q) (exp_again h z)))

to_plain : {s r : List ℕ} → Has (Unsigned false) s r → Has Number s r
to_plain (has p) = has (Number.plain p)

to_minus : {b : ℕ} → b ≡ 0x2D → {s r : List ℕ} → Has (Unsigned true) s r → Has Number (b ∷ s) r
to_minus e (has p) = has (Number.minus e p)

number_again : {s r : List ℕ} {n : Numeral} → Number s n r → (z : List ℕ) → Again (Has Number) s r z
number_again (Number.plain p) z = again_map (λ _ q. to_plain q) (unsigned_again p z)
number_again (Number.minus e p) z = again_next (λ _ q. to_minus e q) (unsigned_again p z)

chars_again : {s r : List ℕ} {cs : List Char} → Chars s cs r → (z : List ℕ) → Again (λ s r. Chars s cs r) s r z
chars_again (Chars.close e) z = again (next here) (Chars.close e)
chars_again (Chars.unescaped e p) z = again_next (λ _ q. Chars.unescaped e q) (chars_again p z)
chars_again (Chars.short e f p) z = elim (chars_again p z) [ again w q ↦ again (next (next w)) (Chars.short e f q) ]
chars_again (Chars.hex e u a b c d p) z =
    elim (chars_again p z) [ again w q ↦ again (next (next (next (next (next (next w)))))) (Chars.hex e u a b c d q) ]

string_again : {s r : List ℕ} {cs : List Char} → String s cs r → (z : List ℕ) → Again (Has String) s r z
string_again (String.quoted e p) z = again_next (λ _ q. has (String.quoted e q)) (chars_again p z)

to_number : {s r : List ℕ} → Has Number s r → Has Scalar s r
to_number (has p) = has (Scalar.is_a_number p)

to_string : {s r : List ℕ} → Has String s r → Has Scalar s r
to_string (has p) = has (Scalar.is_a_string p)

scalar_again : {s r : List ℕ} {t : Syntax} → Scalar s t r → (z : List ℕ) → Again (Has Scalar) s r z
scalar_again (Scalar.is_null p) z = again_map (λ _ q. has (Scalar.is_null q)) (word_again p z)
scalar_again (Scalar.is_true p) z = again_map (λ _ q. has (Scalar.is_true q)) (word_again p z)
scalar_again (Scalar.is_false p) z = again_map (λ _ q. has (Scalar.is_false q)) (word_again p z)
scalar_again (Scalar.is_a_number p) z = again_map (λ _ q. to_number q) (number_again p z)
scalar_again (Scalar.is_a_string p) z = again_map (λ _ q. to_string q) (string_again p z)

module _ {A : Type 0} (Item : List ℕ → A → List ℕ → Type 0) (mark : ℕ) where
  -- what follows an item and spaces
  data After : List ℕ → List ℕ → Type 0 where
    close : {s r : List ℕ} → Word (mark ∷ []) s r → After s r
    comma : {s r : List ℕ} → Then (Word (0x2C ∷ [])) (Then Space (Has (Items Item mark))) s r → After s r

  to_items : {s r : List ℕ} → Then (Has Item) (Then Space After) s r → Has (Items Item mark) s r
  to_items (then (has p) (then q (close h))) = has (Items.last p q h)
  to_items (then (has p) (then q (comma (then h (then i (has j)))))) = has (Items.next p q h i j)

  to_empty : {s r : List ℕ} → Then Space (Word (mark ∷ [])) s r → Has (Listed Item mark) s r
  to_empty (then p q) = has (Listed.empty p q)

  to_listed : {s r : List ℕ} → Then Space (Has (Items Item mark)) s r → Has (Listed Item mark) s r
  to_listed (then p (has q)) = has (Listed.items p q)

module _ {A : Type 0} {Item : List ℕ → A → List ℕ → Type 0} {mark : ℕ}
    (item_again : (s : List ℕ) (x : A) (r : List ℕ) → Item s x r → (z : List ℕ) → Again (Has Item) s r z) where
  items_again : {s r : List ℕ} {xs : List A} → Items Item mark s xs r → (z : List ℕ) → Again (Has (Items Item mark)) s r z
  items_again (Items.last p q h) z =
      again_map (λ _ i. to_items Item mark i)
      (again_then (item_again _ _ _ p) (again_then (space_again q) (again_map (λ _ i. After.close i) (word_again h z))))
  items_again (Items.next p q h i j) z =
      again_map (λ _ k. to_items Item mark k)
      (again_then (item_again _ _ _ p) (again_then (space_again q) (again_map (λ _ k. After.comma k)
      (again_then (word_again h) (again_then (space_again i) (items_again j z))))))

  listed_again : {s r : List ℕ} {xs : List A} → Listed Item mark s xs r → (z : List ℕ) → Again (Has (Listed Item mark)) s r z
  listed_again (Listed.empty p q) z = again_map (λ _ i. to_empty Item mark i) (again_then (space_again p) (word_again q z))
  listed_again (Listed.items p q) z = again_map (λ _ i. to_listed Item mark i) (again_then (space_again p) (items_again q z))

module _ (Inner : List ℕ → Syntax → List ℕ → Type 0) where
  to_pair : {s r : List ℕ} → Then (Has String) (Then Space (Then (Word (0x3A ∷ [])) (Then Space (Has Inner)))) s r → Has (Pair Inner) s r
  to_pair (then (has p) (then q (then h (then i (has j))))) = has (Pair.pair p q h i j)

  to_nested : {s r : List ℕ} → Has Scalar s r → Has (Nested Inner) s r
  to_nested (has p) = has (Nested.is_scalar p)

  to_array : {b : ℕ} → b ≡ 0x5B → {s r : List ℕ} → Has (Listed Inner 0x5D) s r → Has (Nested Inner) (b ∷ s) r
  to_array e (has p) = has (Nested.is_an_array e p)

  to_object : {b : ℕ} → b ≡ 0x7B → {s r : List ℕ} → Has (Listed (Pair Inner) 0x7D) s r → Has (Nested Inner) (b ∷ s) r
  to_object e (has p) = has (Nested.is_an_object e p)

module _ {Inner : List ℕ → Syntax → List ℕ → Type 0}
    (inner_again : (s : List ℕ) (t : Syntax) (r : List ℕ) → Inner s t r → (z : List ℕ) → Again (Has Inner) s r z) where
  pair_again : (s : List ℕ) (m : Member) (r : List ℕ) → Pair Inner s m r → (z : List ℕ) → Again (Has (Pair Inner)) s r z
  pair_again s m r (Pair.pair p q h i j) z =
      again_map (λ _ k. to_pair Inner k)
      (again_then (string_again p) (again_then (space_again q) (again_then (word_again h) (again_then (space_again i) (inner_again _ _ _ j z)))))

  nested_again : (s : List ℕ) (t : Syntax) (r : List ℕ) → Nested Inner s t r → (z : List ℕ) → Again (Has (Nested Inner)) s r z
  nested_again s t r (Nested.is_scalar p) z = again_map (λ _ q. to_nested Inner q) (scalar_again p z)
  nested_again s t r (Nested.is_an_array e p) z = again_next (λ _ q. to_array Inner e q) (listed_again inner_again p z)
  nested_again s t r (Nested.is_an_object e p) z = again_next (λ _ q. to_object Inner e q) (listed_again pair_again p z)

value_again : (d : ℕ) (s : List ℕ) (t : Syntax) (r : List ℕ) → Value d s t r → (z : List ℕ) → Again (Has (Value d)) s r z
value_again zero s t r p z = scalar_again p z
value_again (suc d) s t r p z = nested_again (value_again d) s t r p z

-- every part begins somehow

word_some : (w z : List ℕ) → Word w (w ++ z) z
word_some [] z = Word.end
word_some (w ∷ ws) z = Word.more refl (word_some ws z)

some_word : (w z : List ℕ) → Some (Word w) z
some_word w z = some (word_some w z)

some_digits : (z : List ℕ) → Some SomeDigits z
unfolding is_digit between
some_digits z = some {m = 0x30 ∷ z} (SomeDigits.digits refl Digits.end)

some_int : (z : List ℕ) → Some (Has Int) z
some_int z = some {m = 0x30 ∷ z} (has (Int.lone_zero refl))

some_options : (z : List ℕ) → Some (Then (Has Frac) (Has Exp)) z
some_options z = some (then (has Frac.absent) (has Exp.absent))

some_exp : (z : List ℕ) → Some (Has Exp) z
some_exp z = some (has Exp.absent)

some_number : (z : List ℕ) → Some (Has Number) z
some_number z = some {m = 0x30 ∷ z} (has (Number.plain (Unsigned.unsigned (Int.lone_zero refl) Frac.absent Exp.absent)))

some_chars : (z : List ℕ) → Chars (0x22 ∷ z) [] z
some_chars z = Chars.close refl

some_hex : (k n : ℕ) (z : List ℕ) → Some (Has (Rest (Pending.hex k n))) z
unfolding is_hex between
some_hex zero n z = some {m = 0x30 ∷ 0x22 ∷ z} (has (Rest.last refl (some_chars z)))
some_hex (suc k) n z = elim (some_hex k (n * 16 + hex_value 0x30) z) [ some p ↦ some (zero_digit p) ]
  where
    zero_digit : {m : List ℕ} → Has (Rest (Pending.hex k (n * 16 + hex_value 0x30))) m z → Has (Rest (Pending.hex (suc k) n)) (0x30 ∷ m) z
    zero_digit (has p) = has (Rest.next refl p)

some_rest : (p : Pending) (z : List ℕ) → Some (Has (Rest p)) z
unfolding is_short
some_rest Pending.char z = some {m = 0x22 ∷ z} (has (Rest.chars (some_chars z)))
some_rest Pending.escape z = some {m = 0x6E ∷ 0x22 ∷ z} (has (Rest.short refl (some_chars z)))
some_rest (Pending.hex k n) z = some_hex k n z

some_string : (z : List ℕ) → Some (Has String) z
some_string z = some {m = 0x22 ∷ 0x22 ∷ z} (has (String.quoted refl (some_chars z)))

some_scalar : (z : List ℕ) → Some (Has Scalar) z
some_scalar z = some {m = 0x22 ∷ 0x22 ∷ z} (has (Scalar.is_a_string (String.quoted refl (some_chars z))))

some_value : (d : ℕ) (z : List ℕ) → Some (Has (Value d)) z
some_value zero z = some_scalar z
some_value (suc d) z = some {m = 0x22 ∷ 0x22 ∷ z} (has (Nested.is_scalar (Scalar.is_a_string (String.quoted refl (some_chars z)))))

-- where reading is stuck

word_opens : (w s : List ℕ) → Opens (Word w) s (read_word w s)
unfolding read_word
word_opens [] s = is_found tt
word_opens (w ∷ ws) [] = opens_here (some_word (w ∷ ws))
word_opens (w ∷ ws) (b ∷ s) =
    by_test (eqb b w) (λ e. rw (e, read_word) (opens_next (λ _ _ p. Word.more (eqb-true b w e) p) (word_opens ws s)))
    (λ e. rw (e, read_word) (opens_here (some_word (w ∷ ws))))

some_digits_opens : (s : List ℕ) → Opens SomeDigits s (read_some_digits s)
unfolding read_some_digits
some_digits_opens [] = opens_here some_digits
some_digits_opens (b ∷ s) = by_test (is_digit b) (λ e. rw (e, read_some_digits) (is_found tt)) (λ e. rw (e, read_some_digits) (opens_here some_digits))

int_opens : (s : List ℕ) → Opens (Has Int) s (read_int s)
unfolding read_int
int_opens [] = opens_here some_int
int_opens (b ∷ s) =
    by_test (eqb b 0x30) (λ e. rw (e, read_int) (is_found tt)) (λ e. rw (e, read_int)
    (by_test (is_digit b) (λ f. rw f (is_found tt)) (λ f. rw f (opens_here some_int))))

frac_opens : (s : List ℕ) → Opens (Has Frac) s (read_frac s)
unfolding read_frac
frac_opens [] = is_found tt
frac_opens (b ∷ s) =
    by_test (eqb b 0x2E)
    (λ e. rw (e, read_frac) (opens_as _ (opens_next (λ _ _ p. has (Frac.present (eqb-true b 0x2E e) p)) (some_digits_opens s))))
    (λ e. rw (e, read_frac) (is_found tt))

-- after the byte e of an exponent
signed_opens : (e : ℕ) → is_exp e ≡ true → (s : List ℕ) → Opens (λ s r. Has Exp (e ∷ s) r) s (read_signed s)
unfolding read_signed
signed_opens e x [] = opens_here (λ z. elim (some_digits z) [ some p ↦ some (has (Exp.unsigned x p)) ])
signed_opens e x (b ∷ s) =
    by_test (is_sign b) (λ f. rw (f, read_signed) (opens_next (λ _ _ p. has (Exp.signed x f p)) (some_digits_opens s)))
    (λ f. rw (f, read_signed) (opens_map (λ _ _ p. has (Exp.unsigned x p)) (some_digits_opens (b ∷ s))))

exp_opens : (s : List ℕ) → Opens (Has Exp) s (read_exp s)
unfolding read_exp
exp_opens [] = is_found tt
exp_opens (b ∷ s) =
    by_test (is_exp b) (λ e. rw (e, read_exp) (opens_as _ (opens_next (λ _ _ p. p) (signed_opens b e s)))) (λ e. rw (e, read_exp) (is_found tt))

unsigned_opens : (negative : Bool) (s : List ℕ) → Opens (Has (Unsigned negative)) s (read_unsigned negative s)
unfolding read_unsigned
unsigned_opens negative s =
    opens_map (λ _ _ p. to_unsigned negative p)
    (opens_then (int_reads s) (int_opens s) some_options (λ _ _ p. int_again p) (λ _ s₁ _.
    opens_then (frac_reads s₁) (frac_opens s₁) some_exp (λ _ _ p. frac_again p) (λ _ s₂ _.
    opens_as _ (exp_opens s₂))))

number_opens : (s : List ℕ) → Opens (Has Number) s (read_number s)
unfolding read_number
number_opens [] = opens_here some_number
number_opens (b ∷ s) =
    by_test (eqb b 0x2D) (λ e. rw (e, read_number) (opens_next (λ _ _ p. to_minus (eqb-true b 0x2D e) p) (unsigned_opens true s)))
    (λ e. rw (e, read_number) (opens_map (λ _ _ p. to_plain p) (unsigned_opens false (b ∷ s))))

to_escape : {b : ℕ} → b ≡ 0x5C → {s r : List ℕ} → Has (Rest Pending.escape) s r → Has (Rest Pending.char) (b ∷ s) r
to_escape e (has p) = has (Rest.chars (after_backslash e p))

to_unescaped : {b : ℕ} → is_unescaped b ≡ true → {s r : List ℕ} → Has (Rest Pending.char) s r → Has (Rest Pending.char) (b ∷ s) r
to_unescaped e (has p) = has (Rest.chars (Chars.unescaped e (of_chars p)))

to_short : {b : ℕ} → is_short b ≡ true → {s r : List ℕ} → Has (Rest Pending.char) s r → Has (Rest Pending.escape) (b ∷ s) r
to_short e (has p) = has (Rest.short e (of_chars p))

to_unicode : {b : ℕ} → b ≡ 0x75 → {s r : List ℕ} → Has (Rest (Pending.hex 3 0)) s r → Has (Rest Pending.escape) (b ∷ s) r
to_unicode e (has p) = has (Rest.unicode e p)

to_last : {n b : ℕ} → is_hex b ≡ true → {s r : List ℕ} → Has (Rest Pending.char) s r → Has (Rest (Pending.hex zero n)) (b ∷ s) r
to_last e (has p) = has (Rest.last e (of_chars p))

to_next : {k n b : ℕ} → is_hex b ≡ true → {s r : List ℕ} → Has (Rest (Pending.hex k (n * 16 + hex_value b))) s r
    → Has (Rest (Pending.hex (suc k) n)) (b ∷ s) r
to_next e (has p) = has (Rest.next e p)

rest_opens : (p : Pending) (s : List ℕ) → Opens (Has (Rest p)) s (read_chars p s)
unfolding read_chars
rest_opens Pending.char [] = opens_here (some_rest Pending.char)
rest_opens Pending.escape [] = opens_here (some_rest Pending.escape)
rest_opens (Pending.hex k n) [] = opens_here (some_rest (Pending.hex k n))
rest_opens Pending.char (b ∷ s) =
    by_test (eqb b 0x22) (λ e. rw (e, read_chars) (is_found tt)) (λ e. rw (e, read_chars)
    (by_test (eqb b 0x5C) (λ f. rw f (opens_next (λ _ _ p. to_escape (eqb-true b 0x5C f) p) (rest_opens Pending.escape s))) (λ f. rw f
    (by_test (is_unescaped b)
    (λ g. rw g (opens_prepend (byte b) (opens_next (λ _ _ p. to_unescaped g p) (rest_opens Pending.char s))))
    (λ g. rw g (opens_here (some_rest Pending.char)))))))
rest_opens Pending.escape (b ∷ s) =
    by_test (is_short b)
    (λ e. rw (e, read_chars) (opens_prepend (byte (short_value b)) (opens_next (λ _ _ p. to_short e p) (rest_opens Pending.char s))))
    (λ e. rw (e, read_chars)
    (by_test (eqb b 0x75) (λ f. rw f (opens_next (λ _ _ p. to_unicode (eqb-true b 0x75 f) p) (rest_opens (Pending.hex 3 0) s)))
    (λ f. rw f (opens_here (some_rest Pending.escape)))))
rest_opens (Pending.hex zero n) (b ∷ s) =
    by_test (is_hex b)
    (λ e. rw (e, read_chars) (opens_prepend (unit (n * 16 + hex_value b)) (opens_next (λ _ _ p. to_last e p) (rest_opens Pending.char s))))
    (λ e. rw (e, read_chars) (opens_here (some_rest (Pending.hex zero n))))
rest_opens (Pending.hex (suc k) n) (b ∷ s) =
    by_test (is_hex b)
    (λ e. rw (e, read_chars) (opens_next (λ _ _ p. to_next e p) (rest_opens (Pending.hex k (n * 16 + hex_value b)) s)))
    (λ e. rw (e, read_chars) (opens_here (some_rest (Pending.hex (suc k) n))))

to_quoted : {b : ℕ} → b ≡ 0x22 → {s r : List ℕ} → Has (Rest Pending.char) s r → Has String (b ∷ s) r
to_quoted e (has p) = has (String.quoted e (of_chars p))

string_opens : (s : List ℕ) → Opens (Has String) s (read_string s)
unfolding read_string
string_opens [] = opens_here some_string
string_opens (b ∷ s) =
    by_test (eqb b 0x22) (λ e. rw (e, read_string) (opens_next (λ _ _ p. to_quoted (eqb-true b 0x22 e) p) (rest_opens Pending.char s)))
    (λ e. rw (e, read_string) (opens_here some_string))

scalar_opens : (s : List ℕ) → Opens (Has Scalar) s (read_scalar s)
unfolding read_scalar
scalar_opens [] = opens_here some_scalar
scalar_opens (b ∷ s) =
    by_test (eqb b 0x22)
    (λ e. rw (e, read_scalar) (opens_as _ (opens_next (λ _ _ p. to_string (to_quoted (eqb-true b 0x22 e) p)) (rest_opens Pending.char s))))
    (λ e. rw (e, read_scalar)
    (by_test (eqb b 0x6E)
    (λ f. rw f (opens_as _ (opens_next (λ _ _ p. has (Scalar.is_null (Word.more (eqb-true b 0x6E f) p))) (word_opens _ s))))
    (λ f. rw f
    (by_test (eqb b 0x74)
    (λ g. rw g (opens_as _ (opens_next (λ _ _ p. has (Scalar.is_true (Word.more (eqb-true b 0x74 g) p))) (word_opens _ s))))
    (λ g. rw g
    (by_test (eqb b 0x66)
    (λ h. rw h (opens_as _ (opens_next (λ _ _ p. has (Scalar.is_false (Word.more (eqb-true b 0x66 h) p))) (word_opens _ s))))
    (λ h. rw h
    (opens_as _ (opens_map (λ _ _ p. to_number p) (number_opens (b ∷ s)))))))))))

module _ {A : Type 0} {Item : List ℕ → A → List ℕ → Type 0} {item : List ℕ → Read A} (mark : ℕ) (item_reads : (s : List ℕ) → Reads Item s (item s))
    (item_again : (s : List ℕ) (x : A) (r : List ℕ) → Item s x r → (z : List ℕ) → Again (Has Item) s r z)
    (some_item : (z : List ℕ) → Some (Has Item) z) (item_opens : (s : List ℕ) → Opens (Has Item) s (item s)) where
  some_after : (z : List ℕ) → Some (After Item mark) z
  some_after z = some {m = mark ∷ z} (After.close (Word.more refl Word.end))

  some_space_after : (z : List ℕ) → Some (Then Space (After Item mark)) z
  some_space_after z = some {m = mark ∷ z} (then Space.end (After.close (Word.more refl Word.end)))

  some_items : (z : List ℕ) → Some (Has (Items Item mark)) z
  some_items z =
      elim (some_item (mark ∷ z)) [ some p ↦ some (to_items Item mark (then p (then Space.end (After.close (Word.more refl Word.end))))) ]

  after_item_opens : (more : List ℕ → Read (List A)) → ((s : List ℕ) → Opens (Has (Items Item mark)) s (more s)) → (t : A) (s : List ℕ)
      → Opens (After Item mark) s (after_item more mark t s)
  unfolding after_item
  after_item_opens more opens t [] = opens_here some_after
  after_item_opens more opens t (b ∷ s) =
      by_test (eqb b mark) (λ e. rw (e, after_item) (is_found tt)) (λ e. rw (e, after_item)
      (by_test (eqb b 0x2C)
      (λ f. rw f (opens_prepend t (opens_next (λ _ _ p. After.comma (then (Word.more (eqb-true b 0x2C f) Word.end) p))
      (opens_after (space_again (spaces_sound s)) (opens (spaces s))))))
      (λ f. rw f (opens_here some_after))))

  items_opens : (n : ℕ) (s : List ℕ) → Opens (Has (Items Item mark)) s (read_items item mark n s)
  unfolding read_items
  items_opens zero s = opens_here some_items
  items_opens (suc n) s =
      opens_map (λ _ _ p. to_items Item mark p)
      (opens_then (item_reads s) (item_opens s) some_space_after (item_again s) (λ t r _.
      opens_after (space_again (spaces_sound r)) (after_item_opens (read_items item mark n) (items_opens n) t (spaces r))))

  -- what follows the opening mark and spaces
  data First : List ℕ → List ℕ → Type 0 where
    close : {s r : List ℕ} → Word (mark ∷ []) s r → First s r
    items : {s r : List ℕ} → Has (Items Item mark) s r → First s r

  first_opens : (s : List ℕ) → Opens First s (read_first item mark s)
  unfolding read_first
  first_opens [] = opens_here (λ z. some {m = mark ∷ z} (First.close (Word.more refl Word.end)))
  first_opens (b ∷ s) =
      by_test (eqb b mark) (λ e. rw (e, read_first) (is_found tt))
      (λ e. rw (e, read_first) (opens_map (λ _ _ p. First.items p) (items_opens (length (b ∷ s)) (b ∷ s))))

  of_first : {s r : List ℕ} → Then Space First s r → Has (Listed Item mark) s r
  of_first (then p (First.close q)) = has (Listed.empty p q)
  of_first (then p (First.items (has q))) = has (Listed.items p q)

  listed_opens : (s : List ℕ) → Opens (Has (Listed Item mark)) s (read_listed item mark s)
  unfolding read_listed
  listed_opens s = opens_map (λ _ _ p. of_first p) (opens_after (space_again (spaces_sound s)) (first_opens (spaces s)))

module _ {Inner : List ℕ → Syntax → List ℕ → Type 0} {inner : List ℕ → Read Syntax} (inner_reads : (s : List ℕ) → Reads Inner s (inner s))
    (inner_ends : (s : List ℕ) (t : Syntax) (r : List ℕ) → Inner s t r → Ends r s)
    (inner_again : (s : List ℕ) (t : Syntax) (r : List ℕ) → Inner s t r → (z : List ℕ) → Again (Has Inner) s r z)
    (some_inner : (z : List ℕ) → Some (Has Inner) z) (inner_opens : (s : List ℕ) → Opens (Has Inner) s (inner s)) where
  some_colon : (z : List ℕ) → Some (Then Space (Then (Word (0x3A ∷ [])) (Then Space (Has Inner)))) z
  some_colon z = elim (some_inner z) [ some {m} p ↦ some {m = 0x3A ∷ m} (then Space.end (then (Word.more refl Word.end) (then Space.end p))) ]

  some_spaced : (z : List ℕ) → Some (Then Space (Has Inner)) z
  some_spaced z = elim (some_inner z) [ some p ↦ some (then Space.end p) ]

  pair_opens : (s : List ℕ) → Opens (Has (Pair Inner)) s (read_pair inner s)
  unfolding read_pair
  pair_opens s =
      opens_map (λ _ _ p. to_pair Inner p)
      (opens_then (string_reads s) (string_opens s) some_colon (λ _ _ p. string_again p) (λ _ s₁ _.
      opens_after (space_again (spaces_sound s₁)) (opens_then (word_reads (0x3A ∷ []) (spaces s₁)) (word_opens (0x3A ∷ []) (spaces s₁)) some_spaced
      (λ _ _ p. word_again p) (λ _ s₂ _.
      opens_after (space_again (spaces_sound s₂)) (opens_as _ (inner_opens (spaces s₂)))))))

  some_pair : (z : List ℕ) → Some (Has (Pair Inner)) z
  some_pair z = elim (some_colon z) [ some {m} p ↦ elim (some_string m) [ some q ↦ some (to_pair Inner (then q p)) ] ]

  nested_opens : (s : List ℕ) → Opens (Has (Nested Inner)) s (read_nested inner s)
  unfolding read_nested
  nested_opens [] = opens_here (λ z. elim (some_scalar z) [ some p ↦ some (to_nested Inner p) ])
  nested_opens (b ∷ s) =
      by_test (eqb b 0x5B)
      (λ e. rw (e, read_nested) (opens_as _ (opens_next (λ _ _ p. to_array Inner (eqb-true b 0x5B e) p)
      (listed_opens 0x5D inner_reads inner_again some_inner inner_opens s))))
      (λ e. rw (e, read_nested)
      (by_test (eqb b 0x7B)
      (λ f. rw f (opens_as _ (opens_next (λ _ _ p. to_object Inner (eqb-true b 0x7B f) p)
      (listed_opens 0x7D (pair_reads inner_reads inner_ends) (pair_again inner_again) some_pair pair_opens s))))
      (λ f. rw f (opens_map (λ _ _ p. to_nested Inner p) (scalar_opens (b ∷ s))))))

-- Where reading a value is stuck, the text before that place can go on to a value that is followed by any given text.
pub read_opens : (d : ℕ) (s : List ℕ) → Opens (Has (Value d)) s (read d s)
unfolding read
read_opens zero s = scalar_opens s
read_opens (suc d) s = nested_opens (value_reads d) (value_ends d) (value_again d) (some_value d) (read_opens d) s

-- the end of a text, after spaces
data Same : List ℕ → List ℕ → Type 0 where
  same : {s : List ℕ} → Same s s

end_opens : (t : Syntax) (s : List ℕ) → Opens Same s (at_end t s)
unfolding at_end
end_opens t [] = is_found tt
end_opens t (b ∷ s) = opens_here (λ z. some same)

-- ws value ws, followed by r
pub data Around (d : ℕ) (s r : List ℕ) : Type 0 where
  around : {s₁ s₂ : List ℕ} → Space s s₁ → Has (Value d) s₁ s₂ → Space s₂ r → Around d s r

to_around : (d : ℕ) {s r : List ℕ} → Then Space (Then (Has (Value d)) (Then Space Same)) s r → Around d s r
to_around d (then p (then q (then h same))) = around p q h

-- The same for reading a whole text, and a value with white space before and after it.
pub text_opens : (d : ℕ) (s : List ℕ) → Opens (Around d) s (read_text d s)
unfolding read_text
text_opens d s =
    opens_map (λ _ _ p. to_around d p) (opens_after (space_again (spaces_sound s))
    (opens_then (value_reads d (spaces s)) (read_opens d (spaces s)) (λ z. some (then Space.end same)) (value_again d (spaces s)) (λ t r _.
    opens_after (space_again (spaces_sound r)) (end_opens t (spaces r)))))
