-- The canonical forms of values that are neither arrays nor objects, and a number's digits in the text.
use Prim.Native.Nat.{ℕ, ◌+◌, ◌-◌, ◌<◌}
use mathlib.Core.Path.{◌≡◌, refl, sym, ap, subst, ◌∙◌}
use mathlib.Core.List.{List, [], ◌∷◌, ◌++◌}
use mathlib.Core.Bool.{Bool, true, false}
use native.Mathlib.Omega.{arith}
use native.Mathlib.Nat.{add-zero}
use lib.Dec.{eqb}
use lib.ListN.{length, take, drop, get_or, length-drop}
use lib.Seq.{take_at, length-take-le}
use borrow.Author.Tests.{eqb-true}
use Rattle.text_json.specs.Grammar.{Digits, Int}
use Rattle.text_json.specs.Read.{found, read_int}
use Rattle.text_json.specs.Content.{signed, quoted}
use Rattle.text_numbers.specs.Parts.{IntAt, signs}
use Rattle.text_json.proofs.Places.{drop_next, found_same}
use Rattle.text_json.proofs.Grammar.Sound.{int_sound}
use Rattle.text_content.specs.Value.{Value, null, boolean, number, string}
use Rattle.text_content.specs.Canonical.{sorted, write, canonical}
use Rattle.text_strings.specs.InString.{Inside, content_from}
use Rattle.text_strings.proofs.Contents.{content_from_is}
use Rattle.laws.specs.Writes.{Writes}
use Rattle.text_view.specs.Place.{ValueAt, kind_of}
use Rattle.text_view.specs.declared.Kind.TheVariants.{Null, Boolean, Number, String}
use Rattle.text_view.proofs.Values.{kind_at_is}
use Rattle.text_view.proofs.Numbers.{number_parts}
use Rattle.text_view.proofs.Strings
use Rattle.text_canonical.specs.Space.{Written, NumberAt, DigitsEnd}
use Rattle.text_canonical.proofs.Values
use Rattle.text_canonical.proofs.Values.{null_value, boolean_value, number_value}

null_form : canonical null ≡ 0x6E ∷ 0x75 ∷ 0x6C ∷ 0x6C ∷ []
unfolding canonical sorted write
null_form = refl

-- The canonical form of true is the four letters of its name.
pub true_form : canonical (boolean true) ≡ 0x74 ∷ 0x72 ∷ 0x75 ∷ 0x65 ∷ []
unfolding canonical sorted write
true_form = refl

-- The canonical form of false is the five letters of its name.
pub false_form : canonical (boolean false) ≡ 0x66 ∷ 0x61 ∷ 0x6C ∷ 0x73 ∷ 0x65 ∷ []
unfolding canonical sorted write
false_form = refl

number_form : (n : Bool) (ds : List ℕ) → canonical (number n ds) ≡ signed n ds
unfolding canonical sorted write
number_form n ds = refl

string_form : (c : List ℕ) → canonical (string c) ≡ quoted c
unfolding canonical sorted write
string_form c = refl

-- a number's digits stand in the text as they are written
digits_split : {l ds r : List ℕ} → Digits l ds r → l ≡ ds ++ r
digits_split Digits.end = refl
digits_split (Digits.more {b} e k) = ap (λ (l : List ℕ). b ∷ l) (digits_split k)

int_split : {l ds r : List ℕ} → Int l ds r → l ≡ ds ++ r
int_split (Int.lone_zero e) = refl
int_split (Int.from_nonzero {b} e f k) = ap (λ (l : List ℕ). b ∷ l) (digits_split k)

module _ (s : List ℕ) (at e v : ℕ) where
  -- by the test for a minus sign
  signed_bytes : (n : Bool) (ds : List ℕ) → at < length s → eqb (get_or s at 0) 0x2D ≡ n → IntAt s (at + signs n) e v
      → ((q : List ℕ) × (read_int (drop (at + signs n) s) ≡ found ds q)) → take (e - at) (drop at s) ≡ signed n ds
  unfolding signed
  signed_bytes true ds w t i p =
      let same : i.digits ≡ ds = found_same i.digits ds _ p.0 (sym i.read ∙ p.1) in
      let split : drop (at + 1) s ≡ ds ++ drop e s = rw (← same) (int_split (int_sound (drop (at + 1) s) i.digits (drop e s) i.read)) in
      let mark : get_or s at 0 ≡ 0x2D = eqb-true (get_or s at 0) 0x2D t in
      let all : drop at s ≡ (0x2D ∷ ds) ++ drop e s = cc (drop_next s at w) in
      rw all (take_at (0x2D ∷ ds) (drop e s) (e - at) (omega (arith, i.count, ap length same)))
  signed_bytes false ds w t i p =
      let same : i.digits ≡ ds = found_same i.digits ds _ p.0 (sym i.read ∙ p.1) in
      let split : drop at s ≡ ds ++ drop e s = rw (← same, ← add-zero at) (int_split (int_sound (drop (at + 0) s) i.digits (drop e s) i.read)) in
      rw split (take_at ds (drop e s) (e - at) (omega (arith, i.count, ap length same)))

  -- The digits that are read after the minus sign, or from `at` on without one, end where a number's sign and digits end.
  pub digits_end : (first : ℕ) → at < length s → first ≡ at + signs (eqb (get_or s at 0) 0x2D) → IntAt s first e v → DigitsEnd s at e
  digits_end first w f i =
      record {
        later = omega (arith, i.some, f);
        within = i.inside;
        bytes = λ d n ds h. let p = number_parts s at d n ds h in
            signed_bytes n ds w p.0 (rw (f, p.0) at i) (rw p.0 at p.1);
      }

-- the canonical form of a value by its kind
pub same_kind : (s : List ℕ) (at d e : ℕ) (v w : Value) → ValueAt s at d v → ValueAt s at e w → kind_of v ≡ kind_of w
same_kind s at d e v w p q = sym (kind_at_is s at d v p) ∙ kind_at_is s at e w q

-- The canonical form of a value of the kind null is the four letters of its name.
pub null_bytes : (v : Value) → Null ≡ kind_of v → canonical v ≡ 0x6E ∷ 0x75 ∷ 0x6C ∷ 0x6C ∷ []
null_bytes v k = ap canonical (null_value v k) ∙ null_form

-- A value of the kind of a boolean has that boolean's canonical form.
pub boolean_bytes : (b : Bool) (v : Value) → Boolean b ≡ kind_of v → canonical v ≡ canonical (boolean b)
boolean_bytes b v k = ap canonical (boolean_value b v k)

module _ (s : List ℕ) (at d : ℕ) (v : Value) (p : ValueAt s at d v) where
  -- Where a value of the kind number stands, a number stands.
  pub number_at : Number ≡ kind_of v → NumberAt s at
  number_at k =
      let n = number_value v k in
      record { depth = d; negative = n.0; digits = n.1; here = subst (ValueAt s at d) n.2 p }

  number_bytes : (e : ℕ) → DigitsEnd s at e → Number ≡ kind_of v → canonical v ≡ take (e - at) (drop at s)
  number_bytes e h k =
      let n = number_value v k in
      ap canonical n.2 ∙ number_form n.0 n.1 ∙ sym (h.bytes d n.0 n.1 (subst (ValueAt s at d) n.2 p))

  -- The canonical form of a number is as long as its sign and digits in the text.
  pub number_size : (e : ℕ) → DigitsEnd s at e → Number ≡ kind_of v → length (canonical v) ≡ e - at
  number_size e h k =
      ap length (number_bytes e h k) ∙ length-take-le (e - at) (drop at s) (omega (arith, length-drop at s, h.within))

  -- Where a number's sign and digits are written as they stand in the text, its canonical form is written.
  pub number_written : (before after : List ℕ) (r e : ℕ) → DigitsEnd s at e → Number ≡ kind_of v
      → (r ≡ e - at) × Writes before after (take (e - at) (drop at s)) → Written before after r (canonical v)
  number_written before after r e h k w = (w.0 ∙ sym (number_size e h k), rw (number_bytes e h k) w.1)

  -- The position after the first byte of a value of the kind string stands in a string.
  pub string_inside : String ≡ kind_of v → Inside s (at + 1)
  string_inside k = let c = Values.string_value v k in record { bytes = c.0; here = (Strings.string_value s at c.0 d (subst (ValueAt s at d) c.1 p)).1 }

  -- The canonical form of a string is the content that is read after its quotation mark, quoted.
  pub string_bytes : String ≡ kind_of v → canonical v ≡ quoted (content_from s (at + 1))
  string_bytes k =
      let c = Values.string_value v k in
      let here = (Strings.string_value s at c.0 d (subst (ValueAt s at d) c.1 p)).1 in
      ap canonical c.1 ∙ string_form c.0 ∙ ap quoted (sym (content_from_is s (at + 1) c.0 here))
