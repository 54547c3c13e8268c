-- A line's start is not past the end by more than one, and the store is within the buffer. The measure is how much is left.
use Rattle.std.proofs.Common.{◌+◌, ◌-◌, ◌≤◌, length}
use Rattle.test_store.proofs.obey_all.Given as goal

abbrev pub invariant-loop-start : goal.invariant-loop-start
invariant-loop-start l = (l.start ≤ length l.s + 1) × (l.t.size ≤ length l.buffer)

abbrev pub decreases-loop-start : goal.decreases-loop-start
decreases-loop-start l = length l.s - l.start
