-- The loop of `test_reading::show_all`: a line's start is not past the end by more than one. The measure is how much is left.
use Prim.Native.Nat.{◌+◌, ◌-◌, ◌≤◌}
use lib.ListN.{length}
use Rattle.test_reading.proofs.show_all.Given as goal

abbrev pub invariant-loop-start : goal.invariant-loop-start
invariant-loop-start l = l.start ≤ length l.s + 1

abbrev pub decreases-loop-start : goal.decreases-loop-start
decreases-loop-start l = length l.s + 1 - l.start
