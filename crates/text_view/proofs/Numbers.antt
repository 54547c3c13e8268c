-- A number of the text: its sign and its digits, as json reads them.
use Rattle.std.specs.Prelude.{Ok, Err}
use Prim.Native.Nat.{ℕ, zero, suc, ◌+◌, ◌<◌, ◌≤◌, ◌^◌}
use mathlib.Core.Path.{◌≡◌, refl, sym, ap, ◌∙◌}
use mathlib.Core.List.{List}
use mathlib.Core.Bool.{Bool, true, false}
use native.Mathlib.Omega.{arith}
use native.Mathlib.Nat.{add-zero}
use lib.Dec.{eqb}
use lib.ListN.{length, drop, get_or}
use borrow.Author.Tests.{eqb-true, eqb-false}
use Rattle.text_json.specs.Syntax.{Syntax, Numeral}
use Rattle.text_json.specs.Grammar.{Scalar, Nested, Value as Derives, Stops}
use Rattle.text_json.specs.Read.{Read, found, stuck, and_then, read_int, read_unsigned, read_number}
use Rattle.text_json.specs.Content.{decimal}
use Rattle.text_numbers.specs.Parts.{Ints, signs, read_tail}
use Rattle.text_numbers.specs.declared.Run.{Run}
use Rattle.text_numbers.proofs.NumberSteps.{number_minus, number_plain}
use Rattle.text_numbers.proofs.Numerals.{unsigned_tail, unsigned_stuck, signs_most}
use Rattle.text_json.proofs.Grammar.Complete.{number_complete}
use Rattle.text_content.specs.Value.{Value, number, content}
use Rattle.text_view.specs.Place.{ValueAt}
use Rattle.text_view.proofs.Values.{within}

-- The text l begins with a number of this sign and these digits, and reading finds it.
pub record Reads (l : List ℕ) (negative : Bool) (digits : List ℕ) : Type 0 where
  pub numeral : Numeral
  pub rest : List ℕ
  pub reads : read_number l ≡ found numeral rest
  pub sign : numeral.negative ≡ negative
  pub magnitude : numeral.digits ≡ digits

module _ (n : Bool) (ds : List ℕ) where
  scalar_number : (l : List ℕ) (t : Syntax) (r : List ℕ) → content t ≡ number n ds → Stops r → Scalar l t r → Reads l n ds
  unfolding content
  scalar_number l t r m h (Scalar.is_a_number {n = x} k) =
      record { numeral = x; rest = r; reads = number_complete k h; sign = cc; magnitude = cc }
  scalar_number l t r m h (Scalar.is_null k) = let z : ◌≡◌ {A = ℕ} 0 1 = cc in absurd (omega arith)
  scalar_number l t r m h (Scalar.is_true k) = let z : ◌≡◌ {A = ℕ} 0 1 = cc in absurd (omega arith)
  scalar_number l t r m h (Scalar.is_false k) = let z : ◌≡◌ {A = ℕ} 0 1 = cc in absurd (omega arith)
  scalar_number l t r m h (Scalar.is_a_string k) = let z : ◌≡◌ {A = ℕ} 0 1 = cc in absurd (omega arith)

  value_number : (d : ℕ) (l : List ℕ) (t : Syntax) (r : List ℕ) → content t ≡ number n ds → Stops r → Derives d l t r → Reads l n ds
  unfolding content
  value_number zero l t r m h k = scalar_number l t r m h k
  value_number (suc d) l t r m h (Nested.is_scalar k) = scalar_number l t r m h k
  value_number (suc d) l t r m h (Nested.is_an_array f k) = let z : ◌≡◌ {A = ℕ} 0 1 = cc in absurd (omega arith)
  value_number (suc d) l t r m h (Nested.is_an_object f k) = let z : ◌≡◌ {A = ℕ} 0 1 = cc in absurd (omega arith)

-- a number without its sign is an int and what follows it
tail_parts : (negative : Bool) (ds : List ℕ) (x : Read Bool) (n : Numeral) (r : List ℕ)
    → and_then x (λ w q. found (record { negative = negative; digits = ds; whole = w }) q) ≡ found n r → (negative ≡ n.negative) × (ds ≡ n.digits)
unfolding and_then
tail_parts negative ds (found w q) n r e =
    let f : record { negative = negative; digits = ds; whole = w } ≡ n = cc in
    (ap (λ (m : Numeral). m.negative) f, ap (λ (m : Numeral). m.digits) f)
tail_parts negative ds (stuck q) n r e = let z : ◌≡◌ {A = ℕ} 0 1 = cc in absurd (omega arith)

unsigned_int : (negative : Bool) (l : List ℕ) (x : Read (List ℕ)) (n : Numeral) (r : List ℕ) → read_int l ≡ x → read_unsigned negative l ≡ found n r
    → (negative ≡ n.negative) × ((q : List ℕ) × (read_int l ≡ found n.digits q))
unsigned_int negative l (found ds q) n r i e =
    let p = tail_parts negative ds (read_tail q) n r (sym (unsigned_tail negative l ds q i) ∙ e) in
    (p.0, (q, i ∙ ap (λ (m : List ℕ). found m q) p.1))
unsigned_int negative l (stuck q) n r i e =
    let f = unsigned_stuck negative l q i in
    let z : ◌≡◌ {A = ℕ} 0 1 = cc in absurd (omega arith)

-- the sign that the first byte shows, and where the int starts
number_int : (s : List ℕ) (at : ℕ) (b : Bool) (n : Numeral) (r : List ℕ) → at < length s → eqb (get_or s at 0) 0x2D ≡ b
    → read_number (drop at s) ≡ found n r → (b ≡ n.negative) × ((q : List ℕ) × (read_int (drop (at + signs b) s) ≡ found n.digits q))
number_int s at true n r w e f =
    unsigned_int true (drop (at + 1) s) _ n r refl (sym (number_minus s at w (eqb-true (get_or s at 0) 0x2D e)) ∙ f)
number_int s at false n r w e f =
    rw (add-zero at) (unsigned_int false (drop at s) _ n r refl (sym (number_plain s at w (eqb-false (get_or s at 0) 0x2D e)) ∙ f))

module _ (s : List ℕ) (at d : ℕ) (n : Bool) (ds : List ℕ) (v : ValueAt s at d (number n ds)) where
  -- A number's first byte is a minus sign exactly where it is negative, and after the sign its digits are read.
  pub number_parts : (eqb (get_or s at 0) 0x2D ≡ n) × ((q : List ℕ) × (read_int (drop (at + signs (eqb (get_or s at 0) 0x2D)) s) ≡ found ds q))
  number_parts =
      let p = value_number n ds d (drop at s) v.tree v.rest v.means v.stops v.derives in
      let k = number_int s at _ p.numeral p.rest (within s at d _ v) refl p.reads in
      (k.0 ∙ p.sign, (k.1.0, k.1.1 ∙ ap (λ (m : List ℕ). found m k.1.0) p.magnitude))

-- what `int_part` finds of digits that stand for less than 2 ^ 32
module _ (s : List ℕ) (i j : ℕ) (is : j ≡ i) (ds q : List ℕ) (reads : read_int (drop i s) ≡ found ds q) where
  -- Where the digits stand for a number of at most 32 bits, the value that is found is that number.
  pub int_value : (r : Run) → decimal ds < 2 ^ 32 → Ints s j (Ok r) → r.value ≡ decimal ds
  int_value r small h =
      let f : h.digits ≡ ds = cc (rw is at h.read) in
      let g = ap decimal f in
      let k = h.value in
      omega arith

  -- Where digits are read, it cannot be answered that there are none.
  pub no_int : {C : Type 0} (e : ℕ) → Ints s j (Err e) → C
  no_int e h = let f = rw is at h.read in let z : ◌≡◌ {A = ℕ} 0 1 = cc in absurd (omega arith)

-- The digits of a number begin within the text, after its sign or where it has none.
pub after_sign : (s : List ℕ) (at d : ℕ) (v : Value) → ValueAt s at d v → (m : ℕ) → m ≡ signs (eqb (get_or s at 0) 0x2D) → at + m ≤ length s
after_sign s at d v h m e = omega (arith, within s at d v h, signs_most (eqb (get_or s at 0) 0x2D))

-- Where a number stands, it cannot be answered that no digits follow its sign.
pub always_digits : {C : Type 0} (s : List ℕ) (at d : ℕ) (n : Bool) (ds : List ℕ) → ValueAt s at d (number n ds)
    → (m : ℕ) → m ≡ signs (eqb (get_or s at 0) 0x2D) → (e : ℕ) → Ints s (at + m) (Err e) → C
always_digits s at d n ds v m f e h =
    let k = number_parts s at d n ds v in
    no_int s (at + signs (eqb (get_or s at 0) 0x2D)) (at + m) (ap (λ (j : ℕ). at + j) f) ds k.1.0 k.1.1 e h
