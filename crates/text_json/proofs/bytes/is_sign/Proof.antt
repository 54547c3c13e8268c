-- `text_json::bytes::is_sign` meets its contract: the test that was made says which case of the definition holds.
-- Assumes nothing.
use borrow.Author.Tests.{ne_eqb}
use Rattle.text_json.specs.Bytes.{is_sign}
use Rattle.text_json.proofs.bytes.is_sign.Statement.{statement}
use Rattle.text_json.proofs.bytes.is_sign.Tie as tie

pub is_sign_spec : {M : Type 1} → statement M
unfolding is_sign
is_sign_spec =
    tie.close (tie.spec (λ c. rw c.if-b-eq45.true) (λ c. simp (ne_eqb _ _ c.if-b-eq45.false)))
