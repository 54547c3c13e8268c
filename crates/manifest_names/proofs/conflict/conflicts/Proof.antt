-- `manifest_names::conflict::conflicts` meets its contract: each alias is asked about with its key.
-- Assumes nothing.
use Rattle.manifest_heads.specs.Contents.{conflict}
use Rattle.manifest_names.specs.Asked.{passes}
use Rattle.manifest_names.proofs.conflict.conflicts.Statement.{statement}
use Rattle.manifest_names.proofs.conflict.conflicts.Tie as tie

any-requires : tie.Need-any-requires
any-requires c κs = let o = c.requires in ((o.0.aliases, o.0.sorted), o.1, o.2)

returns : tie.Need-returns
unfolding passes conflict
returns c = λ xs o m f. c.any.ensures (xs, m) o f

pub conflicts_spec : {M : Type 1} → statement M
conflicts_spec =
    tie.close (tie.spec any-requires returns)
