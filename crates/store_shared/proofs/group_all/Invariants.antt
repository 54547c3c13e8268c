-- The groups of the images before this one are written.
use Rattle.store_names.specs.Shared.{GroupsOf}
use Rattle.store_shared.proofs.group_all.Given as goal

abbrev pub invariant-loop-i : goal.invariant-loop-i
invariant-loop-i l = GroupsOf l.b l.v l.i l.groups
