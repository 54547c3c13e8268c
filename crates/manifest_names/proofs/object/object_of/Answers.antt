use Rattle.manifest_fields.proofs.Founds.{missing_members}
use Rattle.manifest_names.proofs.Founds.{object_here, its_object}
use Rattle.manifest_names.proofs.Objects.{nothing_named}
use Rattle.manifest_names.proofs.object.object_of.Goals as goal

pub returns-in_err-group : goal.returns-in_err-group
returns-in_err-group c = λ o f. rw c.from_residual.ensures (nothing_named _ _ (missing_members _ _ _ o f c.in_err-group.was))

pub object_in-requires : goal.object_in-requires
object_in-requires c = (object_here _ _ _ c.requires.0 _ c.in_ok-group.was, c.requires.1)

pub returns : goal.returns
returns c = λ o f. c.object_in.ensures _ (its_object _ _ _ c.requires.0 _ c.in_ok-group.was o f)
