-- Where the char that is read next is no second half of a surrogate pair.
-- Assumes nothing.
use Prim.Native.Nat.{ℕ, ◌<◌}
use mathlib.Core.Path.{◌≡◌, refl}
use mathlib.Core.List.{List, [], ◌∷◌}
use mathlib.Core.Bool.{Bool, true, false, and-false, true≢false}
use borrow.Author.Tests.{ne_eqb}
use lib.ListN.{length, drop, get_or}
use lib.Dec.{eqb}
use Rattle.text_json.specs.Bytes.{is_unescaped, is_short, short_value}
use Rattle.text_json.specs.Syntax.{Char, byte, unit}
use Rattle.text_json.specs.Read.{Read, found, stuck, char, escape, hex, prepend, read_chars}
use Rattle.text_json.specs.Content.{is_high, is_low, is_pair}
use Rattle.text_chars.specs.Measure.{paired}
use Rattle.text_json.proofs.Places.{drop_next}

-- A \u escape makes no pair with a char read next that is no \u escape.
pub paired_byte : (u b : ℕ) (x : Read (List Char)) → paired u (prepend (byte b) x) ≡ false
unfolding paired prepend
paired_byte u b (found cs r) = refl
paired_byte u b (stuck r) = refl

-- A \u escape makes no pair with a \u escape read next that is no low surrogate.
pub paired_unit : (u v : ℕ) (x : Read (List Char)) → is_low v ≡ false → paired u (prepend (unit v) x) ≡ false
unfolding paired prepend is_pair
paired_unit u v (found cs r) e = rw (e, and-false)
paired_unit u v (stuck r) e = refl

-- A \u escape makes no pair where reading what follows it is stuck.
pub paired_stuck : (u : ℕ) (r : List ℕ) → paired u (stuck r) ≡ false
unfolding paired
paired_stuck u r = refl

-- A \u escape that is no high surrogate makes no pair with whatever is read next.
pub paired_high : (u : ℕ) (x : Read (List Char)) → is_high u ≡ false → paired u x ≡ false
unfolding paired is_pair
paired_high u (found [] r) e = refl
paired_high u (found (byte b ∷ cs) r) e = refl
paired_high u (found (unit v ∷ cs) r) e = rw e
paired_high u (stuck r) e = refl

-- a char that is neither a quotation mark nor an escape, and an escape that is no \u escape

plain_char : (u b : ℕ) (r : List ℕ) → (b ≡ 0x5C → ⊥) → paired u (read_chars char (b ∷ r)) ≡ false
unfolding read_chars
plain_char u b r e = pick (eqb b 0x22) (eqb b 0x5C) (is_unescaped b) (ne_eqb b 0x5C e)
  where
    pick : (x y z : Bool) → y ≡ false
        → paired u (elim x [
          | true ↦ found [] r
          | false ↦ elim y [
            | true ↦ read_chars escape r
            | false ↦
                elim z [ true ↦ prepend (byte b) (read_chars char r) | false ↦ stuck (b ∷ r) ]
          ]
        ]) ≡ false
    pick true y z f = unfold paired in refl
    pick false true z f = absurd (true≢false f)
    pick false false true f = paired_byte u b _
    pick false false false f = paired_stuck u _

short_escape : (u b : ℕ) (r : List ℕ) → (b ≡ 0x75 → ⊥) → paired u (read_chars escape (b ∷ r)) ≡ false
unfolding read_chars
short_escape u b r e = pick (is_short b) (eqb b 0x75) (ne_eqb b 0x75 e)
  where
    pick : (x y : Bool) → y ≡ false
        → paired u (elim x [
          | true ↦ prepend (byte (short_value b)) (read_chars char r)
          | false ↦
              elim y [ true ↦ read_chars (hex 3 0) r | false ↦ stuck (b ∷ r) ]
        ]) ≡ false
    pick true y f = paired_byte u _ _
    pick false true f = absurd (true≢false f)
    pick false false f = paired_stuck u _

module _ (u : ℕ) (s : List ℕ) (i : ℕ) (h : i < length s) where
  -- A \u escape makes no pair with what is read at a byte that is no backslash.
  pub paired_plain : (get_or s i 0 ≡ 0x5C → ⊥) → paired u (read_chars char (drop i s)) ≡ false
  paired_plain e = rw (drop_next s i h) (plain_char u _ _ e)

  -- A \u escape makes no pair with an escape whose byte after the backslash is not the letter u.
  pub paired_escape : (get_or s i 0 ≡ 0x75 → ⊥) → paired u (read_chars escape (drop i s)) ≡ false
  paired_escape e = rw (drop_next s i h) (short_escape u _ _ e)
