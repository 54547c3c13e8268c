-- `text_json::bytes::is_digit` meets its contract: `between` ensures it.
-- Assumes nothing.
use borrow.Author.Rules.{rules}
use Rattle.text_json.specs.Bytes.{is_digit}
use Rattle.text_json.proofs.bytes.is_digit.Statement.{statement}
use Rattle.text_json.proofs.bytes.is_digit.Tie as tie

returns : tie.Need-returns
unfolding is_digit
returns c = c.between.ensures

pub is_digit_spec : {M : Type 1} → statement M
is_digit_spec =
    tie.close (tie.spec (λ c κs. search rules) returns)
