use Rattle.std.proofs.Common.{◌≡◌, leb, take, drop}
use Rattle.text_chars.specs.Measure.{every}
use Rattle.text_chars.proofs.none_below_space.Given as goal

abbrev pub invariant-loop-n : goal.invariant-loop-n
invariant-loop-n l = l.all ≡ every (leb 0x20) (take l.n (drop l.at l.s))
