-- `manifest_aliases::shares_self` meets its contract: the names of the group `self` are looked up. Assumes nothing.
use Rattle.manifest_fields.specs.Accessors.{self_field, self_of}
use Rattle.manifest.specs.Manifest.{manifest_of, self_names}
use Rattle.manifest.proofs.Groups.{self_grouped, some_names}
use Rattle.manifest_aliases.proofs.shares_self.Statement.{statement}
use Rattle.manifest_aliases.proofs.shares_self.Tie as tie

shares-requires : tie.Need-shares-requires
shares-requires c κs = let a = c.before.before.before.before in (some_names a.requires.0, a.requires.1, self_grouped _ _ a.requires.2)

returns : tie.Need-returns
unfolding self_names self_of
returns c = let a = c.before.before.before.before.before in
    c.shares.ensures (self_names _) (self_field (manifest_of _)) a.requires.0.sorted a.requires.2.own

pub shares_self_spec : {M : Type 1} → statement M
shares_self_spec =
    tie.close (tie.spec shares-requires returns)
