-- `text_tokens::number` meets its contract: what was scanned, as a value. Assumes nothing.
use borrow.Author.Rules.{rules}
use Rattle.text_tokens.proofs.Tokens.{number_answer}
use Rattle.text_tokens.proofs.number.Statement.{statement}
use Rattle.text_tokens.proofs.number.Tie as tie

pub number_spec : {M : Type 1} → statement M
number_spec =
    tie.close (tie.spec (λ c κs. search rules) (λ c. search rules) (λ c κs. search rules) (λ c. let a = c.before.before.before.args in
    rw c.token.ensures (number_answer a.s.now a.at _ c.number.ensures.1)))
