-- The places lie within the buffers.
use Rattle.std.proofs.Common.{◌≤◌, length}
use Rattle.roomreport.proofs.read_all.Given as goal

abbrev pub invariant-loop : goal.invariant-loop
invariant-loop l = (l.t.kept ≤ length l.kept) × (l.t.unprinted ≤ length l.out)
