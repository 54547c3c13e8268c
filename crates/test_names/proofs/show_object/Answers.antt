-- The first layer of t is read as an alias. Assumes nothing.
use Rattle.manifest_aliases.proofs.Objects.{alias_read}
use Rattle.test_names.proofs.show_object.Goals as goal

pub object_of-requires : goal.object_of-requires
object_of-requires c =
    (c.requires.0, alias_read _ _ _ _ _ _ c.in-Alias.is (rw c.in-Some.is at c.layer.ensures))
