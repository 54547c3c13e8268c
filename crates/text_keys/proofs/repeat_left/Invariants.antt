use Rattle.std.proofs.Common.{◌≡◌, ◌-◌, max, drop}
use Rattle.text_keys.proofs.Repeats.{next_left}
use Rattle.text_keys.proofs.repeat_left.Given as goal

abbrev pub invariant-loop-i : goal.invariant-loop-i
invariant-loop-i l = max l.most (next_left l.s (drop (l.i - 1) l.keys)) ≡ next_left l.s l.keys
