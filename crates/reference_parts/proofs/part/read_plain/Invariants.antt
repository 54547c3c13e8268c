-- The bytes passed are counted, none of them a `/`.
use lib.ListN.{drop}
use Rattle.reference_parts.proofs.Counting.{DigitsCounted}
use Rattle.reference_parts.proofs.part.read_plain.Given as goal

abbrev pub invariant-loop-length : goal.invariant-loop-length
invariant-loop-length l = DigitsCounted (drop l.fn.i l.fn.s) (drop l.length (drop l.fn.i l.fn.s)) l.length l.hex
