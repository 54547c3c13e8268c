use borrow.Author.Rules.{rules}
use Rattle.text_tokens.proofs.mark.Statement.{statement}
use Rattle.text_tokens.proofs.mark.Tie as tie

returns-then-faulty : tie.Need-returns-then-faulty
returns-then-faulty c = rw c.if-faulty.true

pub mark_spec : {M : Type 1} → statement M
mark_spec =
    tie.close (tie.spec (λ c. search rules) returns-then-faulty (λ c. search rules))
