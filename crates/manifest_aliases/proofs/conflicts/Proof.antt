-- `manifest_aliases::conflicts` meets its contract: the names of the group `contents` are looked up, and their keys compared. Assumes nothing.
use mathlib.Core.Path.{◌∙◌}
use Rattle.manifest_fields.specs.Accessors.{contents_field, contents_of}
use Rattle.manifest_heads.specs.Contents.{named_in}
use Rattle.manifest.specs.Manifest.{manifest_of}
use Rattle.manifest.proofs.Groups.{contents_grouped, some_contents}
use Rattle.manifest_aliases.proofs.Objects.{conflict_keys}
use Rattle.manifest_aliases.proofs.conflicts.Statement.{statement}
use Rattle.manifest_aliases.proofs.conflicts.Tie as tie

conflicts-requires : tie.Need-conflicts-requires
conflicts-requires c κs = let a = c.before.before.before.before.before in (some_contents a.requires.0, a.requires.1, contents_grouped _ _ a.requires.2)

returns : tie.Need-returns
unfolding contents_of
returns c =
    let a = c.before.before.before.before.before.before in
    c.conflicts.ensures (named_in (contents_of (manifest_of _))) (contents_field (manifest_of _)) a.requires.0.sorted a.requires.2.contents ∙ conflict_keys _ _

pub conflicts_spec : {M : Type 1} → statement M
conflicts_spec =
    tie.close (tie.spec conflicts-requires returns)
