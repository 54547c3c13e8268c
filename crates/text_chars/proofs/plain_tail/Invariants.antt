use Rattle.std.proofs.Common.{◌≡◌, ◌+◌, drop}
use Rattle.text_chars.specs.Measure.{plain_length}
use Rattle.text_chars.proofs.plain_tail.Given as goal

abbrev pub invariant-loop-i : goal.invariant-loop-i
invariant-loop-i l = l.at + plain_length (drop l.at l.s) ≡ l.i + plain_length (drop l.i l.s)
