-- The places lie within the buffers. The measure is what is left of the part.
use Rattle.std.proofs.Common.{◌-◌, ◌≤◌, length}
use Rattle.roomreport.proofs.feed.Given as goal

abbrev pub invariant-loop-at : goal.invariant-loop-at
invariant-loop-at l = (l.at ≤ length l.part) × (l.t.kept ≤ length l.kept) × (l.t.unprinted ≤ length l.out)

abbrev pub decreases-loop-at : goal.decreases-loop-at
decreases-loop-at l = length l.part - l.at
