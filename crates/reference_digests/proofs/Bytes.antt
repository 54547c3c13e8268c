-- Two algorithms are the same exactly if their bytes are. Assumes nothing.
use mathlib.Core.Path.{◌≡◌, refl, sym, ◌∙◌}
use mathlib.Core.Bool.{true, false, not}
use borrow.Author.Tests.{eqb-true, eqb-false, not-true, not-false}
use denote.Enum.Bare.{sameb}
use lib.Dec.{eqb}
use Rattle.reference_digests.specs.Algorithms.{byte_of}
use Rattle.reference_digests.specs.contracts.algorithm.Algorithm.{the_type}
use Rattle.reference_digests.specs.declared.algorithm.Algorithm.{Algorithm}
use Rattle.reference_digests.specs.declared.algorithm.Algorithm.TheVariants.{Sha224, Sha256, Sha384}

-- Comparing two algorithms is comparing their bytes.
pub by_bytes : (a b : Algorithm) → sameb the_type a b ≡ eqb (byte_of a) (byte_of b)
by_bytes Sha224 Sha224 = refl
by_bytes Sha224 Sha256 = refl
by_bytes Sha224 Sha384 = refl
by_bytes Sha256 Sha224 = refl
by_bytes Sha256 Sha256 = refl
by_bytes Sha256 Sha384 = refl
by_bytes Sha384 Sha224 = refl
by_bytes Sha384 Sha256 = refl
by_bytes Sha384 Sha384 = refl

module _ (a b : Algorithm) where
  -- Where they are not told apart their bytes are the same,
  pub same_bytes : not (sameb the_type a b) ≡ false → byte_of a ≡ byte_of b
  same_bytes e = eqb-true _ _ (sym (by_bytes a b) ∙ not-false _ e)

  -- and where they are told apart they are not.
  pub other_bytes : not (sameb the_type a b) ≡ true → byte_of a ≡ byte_of b → ⊥
  other_bytes e = eqb-false _ _ (sym (by_bytes a b) ∙ not-true _ e)
