use Prim.Native.Nat.{◌-◌}
use lib.ListN.{length}
use Rattle.manifest_names.specs.Asked.{passes}
use Rattle.manifest_names.proofs.Walking.{InNamed}
use Rattle.manifest_names.proofs.asked.any_grouped.Given as goal

-- one of the aliases that are left passes where one of the group's does
abbrev pub invariant-loop-key : goal.invariant-loop-key
invariant-loop-key l = InNamed (passes l.asked l.s l.keys l.names) l.t l.at l.depth l.left

abbrev pub decreases-loop-key : goal.decreases-loop-key
decreases-loop-key l = length l.t - l.left.at
