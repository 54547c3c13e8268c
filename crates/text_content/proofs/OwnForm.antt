-- A text is its own canonical form exactly if it is as long as that form and the keys of every object are in rising order: the case of
-- equality of `not_longer`, since the form of each token is as long as the token only where it is the token.
use Prim.Native.Nat.{ℕ, zero, suc, ◌+◌, ◌≤◌}
use mathlib.Core.Path.{◌≡◌, refl, sym, ap, subst, ◌∙◌}
use mathlib.Core.Logic.{◌↔◌}
use mathlib.Core.List.{List, [], ◌∷◌, ◌++◌, append_assoc, append-nil}
use mathlib.Core.Bool.{Bool, true, false, ◌||◌}
use native.Mathlib.Omega.{arith}
use borrow.Author.Tests.{eqb-true}
use lib.Dec.{eqb}
use lib.ListN.{length, length-append}
use lib.Seq.{append_snoc}
use Rattle.laws.proofs.Order.{by_test}
use Rattle.text_json.specs.Bytes.{short_value}
use Rattle.text_json.specs.Syntax.{Char, unit, Numeral, Syntax, Member, elements, members}
use Rattle.text_json.specs.Grammar
use Rattle.text_json.specs.Grammar.{hex_number, Space, Word, Digits, Int, Frac, Exp, Unsigned, Number, Chars, String, Scalar, Items, Listed, Pair}
use Rattle.text_json.specs.Grammar.{Nested, Text}
use Rattle.text_json.specs.Content.{unescape, escaped, quoted, signed}
use Rattle.text_json.proofs.Grammar.Agree.{one_tree}
use Rattle.text_json.proofs.Grammar.Bytes.{or_cases}
use Rattle.text_content.specs.Value.{content, contents, fields}
use Rattle.text_content.specs.Canonical.{comma, write, write_values, write_fields, canonical, ordered}
use Rattle.text_content.specs.Fault.{string_fault}
use Rattle.text_content.proofs.Size.{enclosed, size_of, size_canonical}
use Rattle.text_content.proofs.NotLonger.{space_length, word_length, some_digits_length, int_length, frac_length, exp_length, unsigned_sign}
use Rattle.text_content.proofs.NotLonger.{escaped_unescaped, char_size, chars_size, escaped_size, chars_size_bound, string_length, total_size}
use Rattle.text_content.proofs.NotLonger.{member_size, elements_size, members_size, items_length, pair_length, value_length}
use Rattle.text_content.proofs.Ordered.{sorted_ordered, ordered_sorted}
use Rattle.text_content.proofs.Laws.{text_reads_back}

-- what the canonical form leaves out is empty in a text that is not longer than it
same_space : {s r : List ℕ} → Space s r → length r ≡ length s → s ≡ r
same_space Space.end q = refl
same_space (Space.more e h) q = absurd (omega (arith, space_length h))

same_frac : {s r : List ℕ} {f : Bool} → Frac s f r → length r ≡ length s → s ≡ r
same_frac Frac.absent q = refl
same_frac (Frac.present e h) q = absurd (omega (arith, some_digits_length h))

same_exp : {s r : List ℕ} {e : Bool} → Exp s e r → length r ≡ length s → s ≡ r
same_exp Exp.absent q = refl
same_exp (Exp.unsigned e h) q = absurd (omega (arith, some_digits_length h))
same_exp (Exp.signed e f h) q = absurd (omega (arith, some_digits_length h))

-- words and digits are always written as they stand
word_is : {w s r : List ℕ} → Word w s r → s ≡ w ++ r
word_is Word.end = refl
word_is (Word.more e h) = λ i. e i ∷ word_is h i

digits_are : {s ds r : List ℕ} → Digits s ds r → s ≡ ds ++ r
digits_are Digits.end = refl
digits_are (Digits.more {b = b} e h) = ap (λ (l : List ℕ). b ∷ l) (digits_are h)

int_is : {s ds r : List ℕ} → Int s ds r → s ≡ ds ++ r
int_is (Int.lone_zero e) = refl
int_is (Int.from_nonzero {b = b} e n h) = ap (λ (l : List ℕ). b ∷ l) (digits_are h)

unsigned_is : {negative : Bool} {s r : List ℕ} {n : Numeral} → Unsigned negative s n r → length n.digits + length r ≡ length s → s ≡ n.digits ++ r
unsigned_is (Unsigned.unsigned {ds = ds} i f e) q =
    let a = int_length i in
    let b = frac_length f in
    let c = exp_length e in
    int_is i ∙ ap (λ (l : List ℕ). ds ++ l) (same_frac f (omega arith) ∙ same_exp e (omega arith))

number_is : {s r : List ℕ} {n : Numeral} → Number s n r → length (signed n.negative n.digits) + length r ≡ length s
    → s ≡ signed n.negative n.digits ++ r
unfolding signed
number_is (Number.plain h) q = rw (unsigned_sign h, signed) (unsigned_is h (rw (unsigned_sign h, signed) at q))
number_is {r = r} {n = n} (Number.minus {b = b} {s = s} e h) q =
    let p : suc (length n.digits) + length r ≡ suc (length s) = rw (unsigned_sign h, signed) at q in
    rw (unsigned_sign h, signed) (λ i. e i ∷ unsigned_is h (omega arith) i)

-- an escape of two characters is as long as the form of what it stands for only where it is that form
short_value_same : (b : ℕ) → 0x20 ≤ short_value b → short_value b ≡ b
unfolding short_value
short_value_same b =
    by_test (eqb b 0x62) (λ e. rw (e, short_value) (λ h. absurd (omega arith))) (λ e. rw (e, short_value)
    (by_test (eqb b 0x66) (λ f. rw f (λ h. absurd (omega arith))) (λ f. rw f
    (by_test (eqb b 0x6E) (λ g. rw g (λ h. absurd (omega arith))) (λ g. rw g
    (by_test (eqb b 0x72) (λ i. rw i (λ h. absurd (omega arith))) (λ i. rw i
    (by_test (eqb b 0x74) (λ j. rw j (λ h. absurd (omega arith))) (λ j. rw j (λ h. refl))))))))))

short_is : (b : ℕ) (s : List ℕ) → 2 + length (escaped s) ≤ length (escaped (short_value b ∷ s)) → escaped (short_value b ∷ s) ≡ 0x5C ∷ b ∷ escaped s
unfolding escaped
short_is b s =
    by_test (eqb (short_value b) 0x22 || eqb (short_value b) 0x5C)
    (λ e. rw (e, escaped) (λ h. ap (λ (c : ℕ). 0x5C ∷ c ∷ escaped s) (short_value_same b (high e))))
    (λ e. rw (e, escaped) (λ h. absurd (omega arith)))
  where
    high : eqb (short_value b) 0x22 || eqb (short_value b) 0x5C ≡ true → 0x20 ≤ short_value b
    high e =
        or_cases (eqb (short_value b) 0x22) _ e (λ f. let g = eqb-true (short_value b) 0x22 f in omega arith)
        (λ f. let g = eqb-true (short_value b) 0x5C f in omega arith)

chars_are : {s r : List ℕ} {cs : List Char} → Chars s cs r → length (escaped (unescape cs)) + 1 + length r ≡ length s
    → s ≡ escaped (unescape cs) ++ (0x22 ∷ r)
unfolding unescape escaped char_size chars_size
chars_are (Chars.close {s = s} e) q = ap (λ (b : ℕ). b ∷ s) e
chars_are {r = r} (Chars.unescaped {b = b} {cs = cs} e h) q =
    let f = escaped_unescaped b (unescape cs) e in
    ap (λ (l : List ℕ). b ∷ l) (chars_are h (omega (arith, ap length f))) ∙ sym (ap (λ (l : List ℕ). l ++ (0x22 ∷ r)) f)
chars_are {r = r} (Chars.short {b = b} {s = s} {cs = cs} e f h) q =
    let g = short_is b (unescape cs) (omega (arith, chars_size_bound h, escaped_size cs)) in
    (λ i. e i ∷ b ∷ chars_are h (omega (arith, ap length g)) i) ∙ sym (ap (λ (l : List ℕ). l ++ (0x22 ∷ r)) g)
chars_are (Chars.hex {a = a} {b} {c} {d} {cs = cs} e f g i j k h) q =
    absurd (omega (arith, chars_size_bound h, escaped_size (unit (hex_number a b c d) ∷ cs)))

string_is : {s r : List ℕ} {cs : List Char} → String s cs r → length (quoted (unescape cs)) + length r ≡ length s → s ≡ quoted (unescape cs) ++ r
unfolding quoted
string_is {r = r} (String.quoted {s = s} {cs = cs} e h) q =
    let p : length (escaped (unescape cs)) + 1 + length r ≡ length s = omega (arith, length-append (escaped (unescape cs)) (0x22 ∷ [])) in
    λ i. e i ∷ (chars_are h p ∙ sym (append_snoc (escaped (unescape cs)) 0x22 r)) i

scalar_is : {s r : List ℕ} {t : Syntax} → Scalar s t r → size_of t + length r ≡ length s → s ≡ write (content t) ++ r
unfolding size_of write content
scalar_is (Scalar.is_null h) q = word_is h
scalar_is (Scalar.is_true h) q = word_is h
scalar_is (Scalar.is_false h) q = word_is h
scalar_is (Scalar.is_a_number h) q = number_is h q
scalar_is (Scalar.is_a_string h) q = string_is h q

-- items written one after the other, with a comma between each two; `first` says whether nothing stands before
joined : {A : Type 0} → (A → List ℕ) → Bool → List A → List ℕ
joined form first [] = []
joined form first (t ∷ ts) = comma first ++ (form t ++ joined form false ts)

module _
    {A : Type 0} (Item : List ℕ → A → List ℕ → Type 0) (f : A → ℕ) (fits : (s : List ℕ) (t : A) (r : List ℕ) → Item s t r → f t + length r ≤ length s)
    (form : A → List ℕ) (is : (s : List ℕ) (t : A) (r : List ℕ) → Item s t r → f t + length r ≡ length s → s ≡ form t ++ r) where
  items_join : {m : ℕ} {s r : List ℕ} {ts : List A} → Items Item m s ts r → joined form false ts ≡ 0x2C ∷ joined form true ts
  unfolding joined comma
  items_join (Items.last h g w) = refl
  items_join (Items.next h g w g' i) = refl

  items_are : {m : ℕ} {s r : List ℕ} {ts : List A} → Items Item m s ts r → total_size f ts + length r ≡ length s → s ≡ joined form true ts ++ (m ∷ r)
  unfolding total_size joined comma
  items_are {m} {r = r} (Items.last {t = t} h g w) q =
      let a = fits _ _ _ h in
      let b = space_length g in
      let c = word_length w in
      is _ _ _ h (omega arith) ∙ ap (λ (l : List ℕ). form t ++ l) (same_space g (omega arith) ∙ word_is w)
      ∙ sym (ap (λ (l : List ℕ). l ++ (m ∷ r)) (append-nil (form t)))
  items_are {m} {r = r} (Items.next {t = t} {ts = ts} h g w g' i) q =
      let a = fits _ _ _ h in
      let b = space_length g in
      let c = word_length w in
      let d = space_length g' in
      let e = items_length Item f fits i in
      is _ _ _ h (omega arith)
      ∙ ap (λ (l : List ℕ). form t ++ l) (same_space g (omega arith) ∙ word_is w
      ∙ ap (λ (l : List ℕ). 0x2C ∷ l) (same_space g' (omega arith) ∙ items_are i (omega arith)))
      ∙ sym (ap (λ (l : List ℕ). form t ++ l ++ (m ∷ r)) (items_join i) ∙ append_assoc (form t) (0x2C ∷ joined form true ts) (m ∷ r))

  listed_is : {m : ℕ} {s r : List ℕ} {ts : List A} → Listed Item m s ts r → enclosed (total_size f ts) + length r ≡ suc (length s)
      → s ≡ joined form true ts ++ (m ∷ []) ++ r
  unfolding total_size enclosed joined
  listed_is (Listed.empty g w) q =
      let a = space_length g in
      let b = word_length w in
      same_space g (omega arith) ∙ word_is w
  listed_is {m} {r = r} {ts = ts} (Listed.items g i) q =
      let a = space_length g in
      let b = items_length Item f fits i in
      same_space g (omega arith) ∙ items_are i (omega arith) ∙ sym (append_snoc (joined form true ts) m r)

member_form : Member → List ℕ
member_form m = quoted (unescape m.key) ++ (0x3A ∷ write (content m.value))

pair_is : (Value : List ℕ → Syntax → List ℕ → Type 0) → ((s : List ℕ) (t : Syntax) (r : List ℕ) → Value s t r → size_of t + length r ≤ length s)
    → ((s : List ℕ) (t : Syntax) (r : List ℕ) → Value s t r → size_of t + length r ≡ length s → s ≡ write (content t) ++ r)
    → (s : List ℕ) (m : Member) (r : List ℕ) → Pair Value s m r → member_size m + length r ≡ length s → s ≡ member_form m ++ r
unfolding member_size member_form
pair_is Value fits is s m r (Pair.pair {cs = cs} {t = t} k g w g' v) q =
    let a = string_length k in
    let b = space_length g in
    let c = word_length w in
    let d = space_length g' in
    let e = fits _ _ _ v in
    string_is k (omega arith)
    ∙ ap (λ (l : List ℕ). quoted (unescape cs) ++ l) (same_space g (omega arith) ∙ word_is w
    ∙ ap (λ (l : List ℕ). 0x3A ∷ l) (same_space g' (omega arith) ∙ is _ _ _ v (omega arith)))
    ∙ sym (append_assoc (quoted (unescape cs)) (0x3A ∷ write (content t)) r)

elements_are : (first : Bool) (ts : List Syntax) → write_values first (contents (elements ts)) ≡ joined (λ t. write (content t)) first ts
unfolding joined write_values contents elements
elements_are first [] = refl
elements_are first (t ∷ ts) = ap (λ (l : List ℕ). comma first ++ (write (content t) ++ l)) (elements_are false ts)

members_are : (first : Bool) (ms : List Member) → write_fields first (fields (members ms)) ≡ joined member_form first ms
unfolding joined member_form write_fields fields members
members_are first [] = refl
members_are first (m ∷ ms) =
    ap (λ (l : List ℕ). comma first ++ (quoted (unescape m.key) ++ (0x3A ∷ (write (content m.value) ++ l)))) (members_are false ms)
    ∙ sym (ap (λ (l : List ℕ). comma first ++ l) (append_assoc (quoted (unescape m.key)) (0x3A ∷ write (content m.value)) (joined member_form false ms)))

-- a value that is as long as its content written in the order in which it has it is what is written
value_is : (d : ℕ) (s : List ℕ) (t : Syntax) (r : List ℕ) → Grammar.Value d s t r → size_of t + length r ≡ length s → s ≡ write (content t) ++ r
unfolding size_of write content
value_is zero s t r h q = scalar_is h q
value_is (suc d) s t r (Nested.is_scalar h) q = scalar_is h q
value_is (suc d) s t r (Nested.is_an_array {ts = ts} e h) q =
    let p = listed_is (Grammar.Value d) size_of (value_length d) (λ t. write (content t)) (value_is d) h (rw (elements_size ts) at q) in
    λ i. e i ∷ (p ∙ sym (ap (λ (l : List ℕ). l ++ (0x5D ∷ []) ++ r) (elements_are true ts))) i
value_is (suc d) s t r (Nested.is_an_object {ms = ms} e h) q =
    let fits = pair_length (Grammar.Value d) (value_length d) in
    let is = pair_is (Grammar.Value d) (value_length d) (value_is d) in
    let p = listed_is (Pair (Grammar.Value d)) member_size fits member_form is h (rw (members_size ms) at q) in
    λ i. e i ∷ (p ∙ sym (ap (λ (l : List ℕ). l ++ (0x7D ∷ []) ++ r) (members_are true ms))) i

text_is : {d : ℕ} {s : List ℕ} {t : Syntax} → Text d s t → length (canonical (content t)) ≡ length s → s ≡ write (content t)
text_is {d} (Text.text {s₁ = s₁} {s₂ = s₂} {t = t} g h g') q =
    let a = space_length g in
    let b = value_length d s₁ t s₂ h in
    let c = space_length g' in
    let e = size_canonical t in
    same_space g (omega arith) ∙ value_is d s₁ t s₂ h (omega arith) ∙ ap (λ (l : List ℕ). write (content t) ++ l) (same_space g' (omega arith))
    ∙ append-nil (write (content t))

-- a text that is as long as its canonical form, with the keys of every object in rising order, is that form
pub own_form : {d : ℕ} {s : List ℕ} {t : Syntax} → Text d s t → length (canonical (content t)) ≡ length s → ordered (content t) ≡ true
    → canonical (content t) ≡ s
unfolding canonical
own_form {t = t} h q o = ap write (sorted_ordered (content t) o) ∙ sym (text_is h q)

-- A text is its own canonical form exactly if it is as long as that form and the keys of every object are in rising order. No string of it may
-- be refused (question 4), so that the form reads as the sorted content.
pub is_own_form : {d : ℕ} {s : List ℕ} {t : Syntax} → Text d s t → string_fault t ≡ 0
    → (canonical (content t) ≡ s) ↔ ((length (canonical (content t)) ≡ length s) × (ordered (content t) ≡ true))
is_own_form {d} {s} {t} h e = (λ q. (ap length q, in_order q), λ p. own_form h p.0 p.1)
  where
    in_order : canonical (content t) ≡ s → ordered (content t) ≡ true
    in_order q =
        let u = text_reads_back h e in
        let w : t ≡ u.tree = one_tree h (subst (λ (l : List ℕ). Text d l u.tree) q u.reads) in
        ap ordered (ap content w ∙ u.means) ∙ ordered_sorted (content t)
