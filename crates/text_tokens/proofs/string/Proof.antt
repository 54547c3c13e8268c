-- `text_tokens::string` meets its contract: what was scanned, as a value. Assumes nothing.
use borrow.Author.Rules.{rules}
use Rattle.text_tokens.proofs.Tokens.{string_answer}
use Rattle.text_tokens.proofs.string.Statement.{statement}
use Rattle.text_tokens.proofs.string.Tie as tie

pub string_spec : {M : Type 1} → statement M
string_spec =
    tie.close (tie.spec (λ c κs. search rules) (λ c. search rules) (λ c κs. search rules) (λ c. let a = c.before.before.before.args in
    rw c.token.ensures (string_answer a.s.now a.at _ c.string.ensures.1)))
