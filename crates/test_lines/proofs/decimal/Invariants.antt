-- The number that the digits from this one on spell after n is that of all digits.
use Rattle.std.proofs.Common.{◌≡◌, drop}
use Rattle.test_lines.specs.Words.{number_from, number_of}
use Rattle.test_lines.proofs.decimal.Given as goal

abbrev pub invariant-loop-b : goal.invariant-loop-b
invariant-loop-b l = number_from l.n (drop l.b-index l.s) ≡ number_of l.s
