-- `manifest_objects::find` meets its contract. Assumes nothing.
use Rattle.manifest_objects.proofs.Naming.{named_by}
use Rattle.manifest_objects.proofs.find.Statement.{statement}
use Rattle.manifest_objects.proofs.find.Tie as tie

find-r-requires : tie.Need-find-r-requires
find-r-requires c κs =
    let p = c.requires in
    (record { strings = p.0.numbers; index = p.0.index.index }, record { bytes = p.1.name; here = p.1.stands.here })

returns : tie.Need-returns
returns c = named_by _ _ _ _ _ _ c.find-r.ensures

pub find_spec : {M : Type 1} → statement M
find_spec =
    tie.close (tie.spec find-r-requires returns)
