-- What is put lies within the buffer.
use Rattle.std.proofs.Common.{◌≤◌, length}
use Rattle.roomreport.proofs.print_pairs.Given as goal

abbrev pub invariant-loop-i : goal.invariant-loop-i
invariant-loop-i l = l.end ≤ length l.out
