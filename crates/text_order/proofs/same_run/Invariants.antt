use Rattle.std.proofs.Common.{◌≡◌, take, drop}
use Rattle.laws.specs.Order.{same}
use Rattle.text_order.proofs.same_run.Given as goal

abbrev pub invariant-loop-n : goal.invariant-loop-n
invariant-loop-n l = l.all ≡ same (take l.n (drop l.i l.s)) (take l.n (drop l.j l.t))
