-- `text_json::bytes::is_space` meets its contract: the tests that were made say which case of the definition holds.
-- Assumes nothing.
use borrow.Author.Tests.{ne_eqb}
use Rattle.text_json.specs.Bytes.{is_space}
use Rattle.text_json.proofs.bytes.is_space.Statement.{statement}
use Rattle.text_json.proofs.bytes.is_space.Tie as tie

pub is_space_spec : {M : Type 1} → statement M
unfolding is_space
is_space_spec =
    tie.close (tie.spec (λ c. rw c.if-b-eq32.true) (λ c. rw c.if-b-eq10.true) (λ c. rw c.if-b-eq13.true)
    (λ c. simp (ne_eqb _ _ c.if-b-eq32.false, ne_eqb _ _ c.if-b-eq10.false, ne_eqb _ _ c.if-b-eq13.false)))
