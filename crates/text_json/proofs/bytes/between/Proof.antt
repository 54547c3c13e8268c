-- `text_json::bytes::between` meets its contract: the test that was made says which case of the definition holds.
-- Assumes nothing.
use borrow.Author.Tests.{le-leb, lt-leb}
use Rattle.text_json.specs.Bytes.{between}
use Rattle.text_json.proofs.bytes.between.Statement.{statement}
use Rattle.text_json.proofs.bytes.between.Tie as tie

returns-then-low-n : tie.Need-returns-then-low-n
unfolding between
returns-then-low-n c = simp (le-leb _ _ c.if-low-n.true)

returns-else-low-n : tie.Need-returns-else-low-n
unfolding between
returns-else-low-n c = simp (lt-leb _ _ c.if-low-n.false)

pub between_spec : {M : Type 1} → statement M
between_spec =
    tie.close (tie.spec returns-then-low-n returns-else-low-n)
