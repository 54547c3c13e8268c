use Prim.Native.Nat.{◌-◌}
use lib.ListN.{length}
use Rattle.manifest_objects.proofs.Listing.{Numbered}
use Rattle.manifest_objects.proofs.list_group.Given as goal

-- the aliases of the members before the cursor were listed with the numbers of their objects, and there is space for 64 of each other member
abbrev pub invariant-loop-value : goal.invariant-loop-value
invariant-loop-value l = Numbered l.s l.at l.depth l.initial.names l.initial.owners l.names l.owners l.left l.n l.object

abbrev pub decreases-loop-value : goal.decreases-loop-value
decreases-loop-value l = length l.s - l.left.at
