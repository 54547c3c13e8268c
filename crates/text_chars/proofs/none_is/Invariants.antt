use Rattle.std.proofs.Common.{◌≡◌, take, drop}
use Rattle.text_chars.specs.Measure.{every, is_not}
use Rattle.text_chars.proofs.none_is.Given as goal

abbrev pub invariant-loop-n : goal.invariant-loop-n
invariant-loop-n l = l.all ≡ every (is_not l.m) (take l.n (drop l.at l.s))
