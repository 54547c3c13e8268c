-- `manifest_objects::read` meets its contract: what was read there stands for the reference that stands there. Assumes nothing.
use borrow.Author.Rules.{rules}
use Rattle.manifest_objects.proofs.read.Statement.{statement}
use Rattle.manifest_objects.proofs.read.Tie as tie

returns : tie.Need-returns
returns c = λ l h. record { at = _; reads = c.read.ensures; is = h.is }

pub read_spec : {M : Type 1} → statement M
read_spec =
    tie.close (tie.spec (λ c κs. search rules) returns)
