-- `text_json::bytes::is_short` meets its contract: the tests that were made say which case of the definition holds.
-- Assumes nothing.
use borrow.Author.Tests.{ne_eqb}
use Rattle.text_json.specs.Bytes.{is_short}
use Rattle.text_json.proofs.bytes.is_short.Statement.{statement}
use Rattle.text_json.proofs.bytes.is_short.Tie as tie

returns-else-b-eq114 : tie.Need-returns-else-b-eq114
unfolding is_short
returns-else-b-eq114 c =
    simp (
      ne_eqb _ _ c.if-b-eq34.false,
      ne_eqb _ _ c.if-b-eq92.false,
      ne_eqb _ _ c.if-b-eq47.false,
      ne_eqb _ _ c.if-b-eq98.false,
      ne_eqb _ _ c.if-b-eq102.false,
      ne_eqb _ _ c.if-b-eq110.false,
      ne_eqb _ _ c.if-b-eq114.false,
    )

pub is_short_spec : {M : Type 1} → statement M
unfolding is_short
is_short_spec =
    tie.close (tie.spec (λ c. rw c.if-b-eq34.true) (λ c. rw c.if-b-eq92.true) (λ c. rw c.if-b-eq47.true) (λ c. rw c.if-b-eq98.true)
    (λ c. rw c.if-b-eq102.true) (λ c. rw c.if-b-eq110.true) (λ c. rw c.if-b-eq114.true) returns-else-b-eq114)
