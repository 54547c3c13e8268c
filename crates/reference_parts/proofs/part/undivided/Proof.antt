-- `reference_parts::part::undivided` meets its contract: too few bytes are left, or the two tests.
-- Assumes nothing.
use borrow.Author.Rules.{rules}
use native.Mathlib.Omega.{arith}
use lib.ListN.{length-drop}
use Rattle.reference_parts.proofs.Blocks.{few_left, enough_left}
use Rattle.reference_parts.proofs.part.undivided.Statement.{statement}
use Rattle.reference_parts.proofs.part.undivided.Tie as tie

returns-then-s-at : tie.Need-returns-then-s-at
returns-then-s-at c = few_left _ _ (rw length-drop (omega arith))

returns : tie.Need-returns
returns c = rw (c.unmarked.ensures, c.none_is.ensures) (enough_left _ _ (rw length-drop (omega arith)))

pub undivided_spec : {M : Type 1} → statement M
undivided_spec =
    tie.close (tie.spec (λ c. search rules) returns-then-s-at (λ c κs. omega arith) (λ c κs. omega arith) returns)
