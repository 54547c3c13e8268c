use Rattle.text_printer.proofs.unmarked_tail.Given as goal
use Rattle.text_printer.specs.Unmarked.{Unmarked}

abbrev pub invariant-loop-i : goal.invariant-loop-i
invariant-loop-i l = Unmarked l.s l.at l.i
