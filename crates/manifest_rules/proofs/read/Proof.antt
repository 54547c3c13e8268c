-- `manifest_rules::read` meets its contract: what was read there stands for the rule that stands there. Assumes nothing.
use Rattle.manifest_rules.proofs.read.Statement.{statement}
use Rattle.manifest_rules.proofs.read.Tie as tie

read-requires : tie.Need-read-requires
read-requires c κs = c.requires.here.inside

returns : tie.Need-returns
returns c = λ y h. record { at = _; reads = c.read.ensures; is = h.is }

pub read_spec : {M : Type 1} → statement M
read_spec =
    tie.close (tie.spec read-requires returns)
