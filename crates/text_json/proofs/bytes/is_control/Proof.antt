-- `text_json::bytes::is_control` meets its contract: the test that was made says which case of the definition holds.
-- Assumes nothing.
use borrow.Author.Tests.{le-leb, lt-leb}
use Rattle.text_json.specs.Content.{is_control}
use Rattle.text_json.proofs.bytes.is_control.Statement.{statement}
use Rattle.text_json.proofs.bytes.is_control.Tie as tie

pub is_control_spec : {M : Type 1} → statement M
unfolding is_control
is_control_spec =
    tie.close (tie.spec (λ c. simp (le-leb _ _ c.if-b-le31.true)) (λ c. simp (lt-leb _ _ c.if-b-le31.false)))
