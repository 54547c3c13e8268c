use Prim.Native.Nat.{◌-◌}
use lib.ListN.{length}
use Rattle.manifest_strings.proofs.Placing.{StringsPlaced}
use Rattle.manifest_strings.proofs.place_items.Given as goal

-- the strings before the items that are left were placed
abbrev pub invariant-loop-first : goal.invariant-loop-first
invariant-loop-first l = StringsPlaced l.s l.start l.at l.depth l.object l.initial.positions l.positions l.left l.n

abbrev pub decreases-loop-first : goal.decreases-loop-first
decreases-loop-first l = length l.s - l.left
