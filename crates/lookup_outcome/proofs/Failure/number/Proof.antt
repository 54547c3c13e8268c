-- `lookup_outcome::Failure::number` meets its contract, for each failure. Assumes nothing.
use Rattle.lookup_outcome.specs.Outcome.{failure_number}
use borrow.Author.Rules.{rules}
use Rattle.lookup_outcome.proofs.Failure.number.Statement.{statement}
use Rattle.lookup_outcome.proofs.Failure.number.Tie as tie

returns-in-Undefined : tie.Need-returns-in-Undefined
unfolding failure_number
returns-in-Undefined c = search rules

returns-in-Endless : tie.Need-returns-in-Endless
unfolding failure_number
returns-in-Endless c = search rules

returns-in-Absent : tie.Need-returns-in-Absent
unfolding failure_number
returns-in-Absent c = search rules

pub number_spec : {M : Type 1} → statement M
number_spec =
    tie.close (tie.spec (λ c. search rules) (λ c. search rules) (λ c. search rules) returns-in-Undefined returns-in-Endless returns-in-Absent)
