-- `policy_marks::has` meets its contract.
use borrow.Author.Rules.{rules}
use Rattle.policy_marks.specs.Words.{bit_at}
use Rattle.policy_marks.proofs.has.Statement.{statement}
use Rattle.policy_marks.proofs.has.Tie as tie

returns : tie.Need-returns
unfolding bit_at
returns c = search rules

pub has_spec : {M : Type 1} → statement M
has_spec =
    tie.close (tie.spec (λ c. search rules) returns)
