-- `text_json::bytes::short_value` meets its contract: the tests that were made say which case of the definition holds.
-- Assumes nothing.
use borrow.Author.Tests.{ne_eqb}
use Rattle.text_json.specs.Bytes.{short_value}
use Rattle.text_json.proofs.bytes.short_value.Statement.{statement}
use Rattle.text_json.proofs.bytes.short_value.Tie as tie

returns-in_default : tie.Need-returns-in_default
unfolding short_value
returns-in_default c =
    let rest = c.in_default.in_default-own.rest in
    simp (
      short_value,
      ne_eqb _ _ rest.1,
      ne_eqb _ _ rest.0.1,
      ne_eqb _ _ rest.0.0.1,
      ne_eqb _ _ rest.0.0.0.1,
      ne_eqb _ _ rest.0.0.0.0.1,
    )

pub short_value_spec : {M : Type 1} → statement M
unfolding short_value
short_value_spec =
    tie.close (tie.spec (λ c. rw c.in-98.is) (λ c. rw c.in-102.is) (λ c. rw c.in-110.is) (λ c. rw c.in-114.is)
    (λ c. rw c.in-116.is) returns-in_default)
