use borrow.Author.Rules.{rules}
use Rattle.text_strings.proofs.Cursors.{encodes}
use Rattle.text_strings.proofs.from_escape.Statement.{statement}
use Rattle.text_strings.proofs.from_escape.Tie as tie

returns : tie.Need-returns
returns c = encodes _ _ _ _ c.encoded-x.ensures.0 c.encoded-x.ensures.1

pub from_escape_spec : {M : Type 1} → statement M
from_escape_spec =
    tie.close (tie.spec (λ c κs. search rules) (λ c. search rules) returns)
