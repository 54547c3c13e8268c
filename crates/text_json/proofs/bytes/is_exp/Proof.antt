-- `text_json::bytes::is_exp` meets its contract: the test that was made says which case of the definition holds.
-- Assumes nothing.
use borrow.Author.Tests.{ne_eqb}
use Rattle.text_json.specs.Bytes.{is_exp}
use Rattle.text_json.proofs.bytes.is_exp.Statement.{statement}
use Rattle.text_json.proofs.bytes.is_exp.Tie as tie

pub is_exp_spec : {M : Type 1} → statement M
unfolding is_exp
is_exp_spec =
    tie.close (tie.spec (λ c. rw c.if-b-eq101.true) (λ c. simp (ne_eqb _ _ c.if-b-eq101.false)))
