-- What the definitions of algorithms and digests say, case by case.
-- Assumes nothing.
use Rattle.std.specs.Prelude.{Some, None}
use Prim.Native.Nat.{ℕ}
use mathlib.Core.Path.{◌≡◌, sym, ◌∙◌}
use mathlib.Core.List.{List}
use mathlib.Core.Bool.{Bool, true, false, ◌&&◌}
use lib.Dec.{eqb}
use borrow.Author.Tests.{eq-eqb, ne_eqb}
use Rattle.laws.specs.Order.{same}
use Rattle.reference_parts.specs.Parts.{first_part}
use Rattle.reference_parts.specs.Readings.{Counts}
use Rattle.reference_parts.specs.declared.part.Part.{Part}
use Rattle.reference_digests.specs.Algorithms.{hex_digits, name_of, named}
use Rattle.reference_digests.specs.Digests.{is_digest}
use Rattle.reference_digests.specs.declared.algorithm.Algorithm.{Algorithm}
use Rattle.reference_digests.specs.declared.algorithm.Algorithm.TheVariants.{Sha224, Sha256, Sha384}

-- algorithms by name
module _ (h : List ℕ) where
  -- What is the name of Sha224 names Sha224.
  pub named_first : same h (name_of Sha224) ≡ true → named h ≡ Some Sha224
  unfolding named
  named_first e = rw (e, named)

  module _ (e : same h (name_of Sha224) ≡ false) where
    -- What is not the name of Sha224 but that of Sha256 names Sha256.
    pub named_second : same h (name_of Sha256) ≡ true → named h ≡ Some Sha256
    unfolding named
    named_second f = rw (e, named) (rw f)

    module _ (f : same h (name_of Sha256) ≡ false) where
      -- What is neither of these names but that of Sha384 names Sha384.
      pub named_third : same h (name_of Sha384) ≡ true → named h ≡ Some Sha384
      unfolding named
      named_third g = rw (e, named) (rw f (rw g))

      -- What is none of the three names names no known algorithm.
      pub named_none : same h (name_of Sha384) ≡ false → named h ≡ None
      unfolding named
      named_none g = rw (e, named) (rw f (rw g))

-- a digest by what is counted of it
pub digest_counted : (a : Algorithm) (c : List ℕ) (p : Part) → Counts c p → (eqb p.length (hex_digits a) && p.hex) ≡ is_digest a (first_part c)
unfolding is_digest
digest_counted a c p k = rw (k.size, k.hex)

-- a digest, by the test of its length
pub digest_test : (a : Algorithm) (n r : ℕ) (hex : Bool) → r ≡ hex_digits a → n ≡ r → hex ≡ (eqb n (hex_digits a) && hex)
digest_test a n r hex e f = rw (eq-eqb n (hex_digits a) (f ∙ e))

-- Where the length is not the algorithm's number of digits, the test for a digest fails.
pub no_digest_test : (a : Algorithm) (n r : ℕ) (hex : Bool) → r ≡ hex_digits a → (n ≡ r → ⊥) → false ≡ (eqb n (hex_digits a) && hex)
no_digest_test a n r hex e f = rw (ne_eqb n (hex_digits a) (λ g. f (g ∙ sym e)))
