-- The same escape of two bytes in two texts stands for the same character.
-- Assumes nothing.
use Prim.Native.Nat.{ℕ, ◌+◌, ◌<◌}
use mathlib.Core.Path.{◌≡◌, sym, subst, ◌∙◌}
use mathlib.Core.List.{List}
use mathlib.Core.Bool.{true, false, not, ◌&&◌, and-eq-true_iff}
use borrow.Author.Tests.{eqb-true, eqb-false, eq-eqb, ne_eqb, not-true}
use lib.Dec.{eqb}
use lib.ListN.{length, get_or}
use Rattle.text_json.specs.Bytes.{short_value}
use Rattle.text_strings.specs.InString.{Inside, Escapes}
use Rattle.text_order.specs.Compare.{same_escape}
use Rattle.text_order.proofs.Alike.{Both}
use Rattle.text_strings.proofs.Escapes.{letter_within, short_escapes}
use Rattle.text_strings.proofs.Cursors.{inside_within, escape_here}
use Rattle.text_order.proofs.Orders.{both_escaped}

-- The position after a backslash inside a string is below the text's length.
pub letter_after : (s : List ℕ) (i : ℕ) → Inside s i → get_or s i 0 ≡ 0x5C → i + 1 < length s
letter_after s i p e = letter_within s i (escape_here s i p e)

-- how the test ends
module _ (s t : List ℕ) (p q : ℕ) where
  -- The test for the same escape fails where no backslash stands in the first text.
  pub no_first : (get_or s p 0 ≡ 0x5C → ⊥) → false ≡ same_escape s p t q
  unfolding same_escape
  no_first n = rw (ne_eqb (get_or s p 0) 0x5C n)

  module _ (e : get_or s p 0 ≡ 0x5C) where
    -- It fails where no backslash stands in the second text.
    pub no_second : (get_or t q 0 ≡ 0x5C → ⊥) → false ≡ same_escape s p t q
    unfolding same_escape
    no_second n = rw (eq-eqb (get_or s p 0) 0x5C e, ne_eqb (get_or t q 0) 0x5C n)

    module _ (f : get_or t q 0 ≡ 0x5C) where
      -- It fails where a `u` follows the backslash in the first text.
      pub with_digits : get_or s (p + 1) 0 ≡ 0x75 → false ≡ same_escape s p t q
      unfolding same_escape
      with_digits g = rw (eq-eqb (get_or s p 0) 0x5C e, eq-eqb (get_or t q 0) 0x5C f, eq-eqb (get_or s (p + 1) 0) 0x75 g)

      -- Where no `u` follows it, the test asks whether the bytes after the two backslashes are equal.
      pub by_letter : (get_or s (p + 1) 0 ≡ 0x75 → ⊥) → eqb (get_or s (p + 1) 0) (get_or t (q + 1) 0) ≡ same_escape s p t q
      unfolding same_escape
      by_letter n = rw (eq-eqb (get_or s p 0) 0x5C e, eq-eqb (get_or t q 0) 0x5C f, ne_eqb (get_or s (p + 1) 0) 0x75 n)

-- what it says, and how comparing goes on behind such escapes
module _ (s t : List ℕ) (p q : ℕ) (b : Inside s p) (c : Inside t q) (e : same_escape s p t q ≡ true) where
  known : (get_or s p 0 ≡ 0x5C) × (get_or t q 0 ≡ 0x5C) × (get_or s (p + 1) 0 ≡ 0x75 → ⊥) × (get_or s (p + 1) 0 ≡ get_or t (q + 1) 0)
  unfolding same_escape
  known =
      let u = (and-eq-true_iff (eqb (get_or s p 0) 0x5C && eqb (get_or t q 0) 0x5C) (not (eqb (get_or s (p + 1) 0) 0x75)
      && eqb (get_or s (p + 1) 0) (get_or t (q + 1) 0))).0 e in
      let v = (and-eq-true_iff (eqb (get_or s p 0) 0x5C) (eqb (get_or t q 0) 0x5C)).0 u.0 in
      let w = (and-eq-true_iff (not (eqb (get_or s (p + 1) 0) 0x75)) (eqb (get_or s (p + 1) 0) (get_or t (q + 1) 0))).0 u.1 in (
        eqb-true (get_or s p 0) 0x5C v.0,
        eqb-true (get_or t q 0) 0x5C v.1,
        eqb-false (get_or s (p + 1) 0) 0x75 (not-true (eqb (get_or s (p + 1) 0) 0x75) w.0),
        eqb-true (get_or s (p + 1) 0) (get_or t (q + 1) 0) w.1,
      )

  first : Escapes s p (p + 2) (short_value (get_or s (p + 1) 0))
  first = short_escapes s p (escape_here s p b known.0) known.2

  second : Escapes t q (q + 2) (short_value (get_or s (p + 1) 0))
  second =
      subst (λ (x : ℕ). Escapes t q (q + 2) (short_value x)) (sym known.3)
      (short_escapes t q (escape_here t q c known.1) (λ z. known.2 (known.3 ∙ z)))

  behind : (u : List ℕ) (i n x : ℕ) → Inside u i → Escapes u i n x → Inside u n
  behind u i n x h k = let g = k.stands h.bytes h.here in record { bytes = g.0; here = g.2 }

  -- The position after such an escape is below the length of the first text.
  pub twin_within : p + 2 < length s
  twin_within = inside_within s (p + 2) (behind s p (p + 2) _ b first)

  -- After such an escape in both texts, both positions are inside strings, and the order is still the one from the start.
  pub twins : (P Q : List ℕ → Type 0) → Both P Q s p t q → Both P Q s (p + 2) t (q + 2)
  twins P Q k = (
    behind s p (p + 2) _ k.0 first,
    behind t q (q + 2) _ k.1 second,
    both_escaped s t p q (p + 2) (q + 2) _ k.2 first second,
  )
