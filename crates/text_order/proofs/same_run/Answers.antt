use Rattle.std.proofs.Common.{arith, ◌≡◌}
use mathlib.Core.Path.{refl}
use Rattle.laws.specs.Order.{same}
use Rattle.text_order.proofs.Alike.{same_next}
use Rattle.text_order.proofs.same_run.Goals as goal

pub loop-n-init : goal.loop-n-init
unfolding same
loop-n-init c = refl

pub loop-n-preserved : goal.loop-n-preserved
loop-n-preserved c =
    let a = c.args in
    same_next a.s.now a.t.now a.i a.j c.loop-n.n c.loop-n.all (omega arith) (omega arith) c.loop-n.invariant

pub returns : goal.returns
returns c =
    let last : c.loop-n.n ≡ c.args.count = omega arith in
    rw last at c.loop-n.invariant
