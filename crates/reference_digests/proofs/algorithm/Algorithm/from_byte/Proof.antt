-- `reference_digests::algorithm::Algorithm::from_byte` meets its contract: its cases are those of the definition.
-- Assumes nothing.
use borrow.Author.Tests.{ne_eqb}
use Rattle.reference_digests.specs.Algorithms.{numbered}
use Rattle.reference_digests.proofs.algorithm.Algorithm.from_byte.Statement.{statement}
use Rattle.reference_digests.proofs.algorithm.Algorithm.from_byte.Tie as tie

returns-in_default : tie.Need-returns-in_default
unfolding numbered
returns-in_default c =
    let rest = c.in_default.in_default-own.rest in
    simp (numbered, ne_eqb _ _ rest.0.0.1, ne_eqb _ _ rest.0.1, ne_eqb _ _ rest.1)

pub from_byte_spec : {M : Type 1} → statement M
unfolding numbered
from_byte_spec =
    tie.close (tie.spec (λ c. rw c.in-1.is) (λ c. rw c.in-2.is) (λ c. rw c.in-3.is) returns-in_default)
