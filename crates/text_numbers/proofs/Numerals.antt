-- A number from its parts, and the numbers that digits make up.
-- Assumes nothing.
use Rattle.std.specs.Prelude.{Result, Ok, Err}
use Prim.Native.Nat.{ℕ, ◌+◌, ◌-◌, ◌*◌, ◌≤◌, ◌<◌}
use mathlib.Core.Path.{◌≡◌, refl, ap, ◌∙◌}
use mathlib.Core.List.{List, [], ◌∷◌}
use mathlib.Core.Bool.{Bool, true, false, ◌&&◌}
use native.Mathlib.Nat.{le_trans}
use native.Mathlib.Decide.{ℕ_discrete, dec_lt}
use native.Mathlib.Omega.{arith}
use borrow.Author.Tests.{eq-eqb, ne_eqb, lt-ltb, le-ltb}
use lib.ListN.{length, drop}
use lib.Dec.{eqb, ltb}
use Rattle.text_json.specs.Bytes.{is_digit}
use Rattle.text_json.specs.Read.{Read, found, stuck, and_then, read_int, read_frac, read_exp, read_unsigned}
use Rattle.text_json.specs.Syntax.{Numeral}
use Rattle.text_json.specs.Content.{decimal, decimal_from, limit, signed, refused_number}
use Rattle.text_json.specs.Scan.{ScansToken}
use Rattle.text_numbers.specs.Parts.{Near, IntAt, ReadTo, Reaches, Parts, read_tail, refused_parts, signs, WithSign}
use Rattle.text_json.specs.Size.{Within, numeral_size}
use Rattle.text_json.specs.declared.Token.{Token}
use Rattle.text_numbers.specs.declared.NumberPart.{NumberPart}
use Rattle.text_json.proofs.ByteTests.{between_true}
use Rattle.text_json.proofs.Places.{scans_found}

-- A decimal digit is a byte from 30 to 39 (hex).
pub digit_range : (b : ℕ) → is_digit b ≡ true → (0x30 ≤ b) × (b ≤ 0x39)
unfolding is_digit
digit_range b e = between_true 0x30 0x39 b e

-- If two numbers are near, then ten times each, with the same number added to both, are near.
pub near_step : (a b x : ℕ) → Near a b → Near (a * 10 + x) (b * 10 + x)
near_step a b x h = omega arith

-- numbers that are near stay so as digits are added
pub near_from : (ds : List ℕ) (a b : ℕ) → Near a b → Near (decimal_from a ds) (decimal_from b ds)
unfolding decimal_from
near_from [] a b h = h
near_from (d ∷ ds) a b h = near_from ds (a * 10 + (d - 0x30)) (b * 10 + (d - 0x30)) (near_step a b (d - 0x30) h)

-- The value of digits is that of the digits after the first, counted on from the value of the first.
pub decimal_first : (d : ℕ) (ds : List ℕ) → decimal (d ∷ ds) ≡ decimal_from (d - 0x30) ds
unfolding decimal decimal_from
decimal_first d ds =
    let first : 0 * 10 + (d - 0x30) ≡ d - 0x30 = omega arith in
    ap (λ (n : ℕ). decimal_from n ds) first

-- what is near 0 is 0, and what is near a number is on the same side of each limit

near_zero : (a b : ℕ) → Near a b → eqb a 0 ≡ eqb b 0
near_zero a b h =
    elim (ℕ_discrete a 0) [
      | yes e ↦ rw (eq-eqb a 0 e, eq-eqb b 0 (omega arith))
      | no e ↦ rw (ne_eqb a 0 e, ne_eqb b 0 (omega arith))
    ]

near_over : (m a b : ℕ) → m < 0x100000000 → Near a b → ltb m a ≡ ltb m b
near_over m a b l h =
    elim (dec_lt m a) [
      | yes e ↦ rw (lt-ltb m a e, lt-ltb m b (omega arith))
      | no e ↦ rw (le-ltb m a (omega arith), le-ltb m b (omega arith))
    ]

limit_below : (negative : Bool) → limit negative < 0x100000000
unfolding limit
limit_below true = omega arith
limit_below false = omega arith

-- With the same sign, both whole or both not, numbers whose values are near are both refused or both not refused.
pub near_refused : (negative whole : Bool) (a b : ℕ) → Near a b → refused_parts negative a whole ≡ refused_parts negative b whole
unfolding refused_parts
near_refused negative whole a b h = rw (near_zero a b h, near_over (limit negative) a b (limit_below negative) h)

-- A sign has at most one byte.
pub signs_most : (negative : Bool) → signs negative ≤ 1
signs_most true = omega arith
signs_most false = omega arith

-- The canonical form of a whole number is as long as its sign and its digits together.
pub signed_size : (negative : Bool) (ds : List ℕ) → length (signed negative ds) ≡ signs negative + length ds
unfolding signed
signed_size true ds = omega arith
signed_size false ds = omega arith

-- reading that goes on further ahead

-- What is read to `e` from a later position is read to `e` from an earlier one, if both readings have the same answer.
pub read_to_from : {A : Type 0} (s : List ℕ) (at next e : ℕ) (x y z : Read A) → at ≤ next → x ≡ y → ReadTo s next e y z → ReadTo s at e x z
read_to_from s at next e x y z l p h = record { past = le_trans l h.past; inside = h.inside; read = p ∙ h.read }

-- The same for a step, whether it ends or is stuck.
pub reaches_from : (s : List ℕ) (at next : ℕ) (x y : Read (Unit {0})) (r : Result ℕ ℕ) → at ≤ next → x ≡ y → Reaches s next y r → Reaches s at x r
reaches_from s at next x y (Ok e) l p h = read_to_from s at next e x y _ l p h
reaches_from s at next x y (Err e) l p h = read_to_from s at next e x y _ l p h

-- a fraction or an exponent that is there, of which digits must be read after its first byte
abbrev pub part_of : Result ℕ ℕ → Result NumberPart ℕ
part_of (Ok e) = Ok (record { end = e; whole = false })
part_of (Err e) = Err e

-- Where the digits after the first byte were stepped over, the part is found, as one that is there, or stuck where they are.
pub part_read : (s : List ℕ) (at : ℕ) (x : Read (Unit {0})) (y : Read Bool) → y ≡ and_then x (λ _ r. found false r)
    → (w : Result ℕ ℕ) → Reaches s (at + 1) x w → Parts s at y (part_of w)
unfolding and_then
part_read s at x y here (Ok e) h = record { past = omega (arith, h.past); inside = h.inside; read = here ∙ rw h.read }
part_read s at x y here (Err e) h = record { past = omega (arith, h.past); inside = h.inside; read = here ∙ rw h.read }

-- an int and what follows it

abbrev numeral : Bool → List ℕ → Bool → List ℕ → Read Numeral
numeral negative ds whole r = found (record { negative = negative; digits = ds; whole = whole }) r

tail_exp : (negative : Bool) (ds : List ℕ) (f : Bool) (y : Read Bool)
    → and_then y (λ e r. numeral negative ds (f && e) r) ≡ and_then (and_then y (λ e r. found (f && e) r)) (numeral negative ds)
unfolding and_then
tail_exp negative ds f (found e r) = refl
tail_exp negative ds f (stuck r) = refl

tail_frac : (negative : Bool) (ds : List ℕ) (x : Read Bool)
    → and_then x (λ f q. and_then (read_exp q) (λ e r. numeral negative ds (f && e) r))
    ≡ and_then (and_then x (λ f q. and_then (read_exp q) (λ e r. found (f && e) r))) (numeral negative ds)
unfolding and_then
tail_frac negative ds (found f q) = tail_exp negative ds f (read_exp q)
tail_frac negative ds (stuck r) = refl

module _ (negative : Bool) (s : List ℕ) where
  -- Where an integer part is found, a number without its sign is read on with its fraction and its exponent.
  pub unsigned_tail : (ds r : List ℕ) → read_int s ≡ found ds r → read_unsigned negative s ≡ and_then (read_tail r) (numeral negative ds)
  unfolding read_unsigned read_tail and_then
  unsigned_tail ds r e = rw e (tail_frac negative ds (read_frac r))

  -- Where reading an integer part is stuck, reading a number without its sign is stuck at the same place.
  pub unsigned_stuck : (r : List ℕ) → read_int s ≡ stuck r → read_unsigned negative s ≡ stuck r
  unfolding read_unsigned and_then
  unsigned_stuck r e = rw e

module _ (negative whole : Bool) (s : List ℕ) (at m e v : ℕ) where
  -- An integer part with what is found after it is a token, with its end, its refusal and the length of its canonical form.
  pub unsigned_token : IntAt s at m v → ReadTo s m e (read_tail (drop m s)) (found whole (drop e s))
      → ScansToken refused_number numeral_size s (read_unsigned negative (drop at s)) (Ok (record { end = e; refused = refused_parts negative v whole; size = signs negative + (m - at) }))
  unfolding and_then refused_number refused_parts numeral_size
  unsigned_token int rest =
      let n : Numeral = record { negative = negative; digits = int.digits; whole = whole } in
      let read = unsigned_tail negative (drop at s) int.digits (drop m s) int.read in
      let refused = near_refused negative whole v (decimal int.digits) int.value in
      let size = signed_size negative int.digits in
      scans_found s e rest.inside _ refused_number numeral_size n _ _ (rw rest.read at read) refused (omega (arith, int.count, int.some))

-- from a number without its sign to the number

-- A scan after a minus sign, with the sign counted in its length, has the bounds of a token that begins at the sign.
pub within_minus : (at : ℕ) (r : Result Token ℕ) → WithSign true (at + 1) r → Within at r
within_minus at (Ok t) h = omega arith
within_minus at (Err e) h = omega arith

-- A scan of a number without a sign has the bounds of a token that begins at the same position.
pub within_plain : (at : ℕ) (r : Result Token ℕ) → WithSign false at r → Within at r
within_plain at (Ok t) h = omega arith
within_plain at (Err e) h = h
