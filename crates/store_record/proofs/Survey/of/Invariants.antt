-- Which records were read. The measure is what is left of the bytes.
use Rattle.std.proofs.Common.{◌-◌, length}
use Rattle.store_record.proofs.Surveying.{Surveyed}
use Rattle.store_record.proofs.Survey.of.Given as goal

abbrev pub invariant-loop-i : goal.invariant-loop-i
invariant-loop-i l = Surveyed l.s l.records l.count l.i

abbrev pub decreases-loop-i : goal.decreases-loop-i
decreases-loop-i l = length l.s - l.i
