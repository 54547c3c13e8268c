use Rattle.std.proofs.Common.{arith, leb, ◌≡◌}
use mathlib.Core.Path.{refl}
use Rattle.text_chars.specs.Measure.{every, is_not}
use Rattle.text_chars.proofs.Plain.{every_next}
use Rattle.text_chars.proofs.none_below_space.Goals as goal

pub loop-n-init : goal.loop-n-init
unfolding every
loop-n-init c = refl

pub loop-n-preserved : goal.loop-n-preserved
unfolding is_not
loop-n-preserved c = every_next (leb 0x20) c.args.s.now c.args.at c.loop-n.n c.loop-n.all (omega arith) c.loop-n.invariant

pub returns : goal.returns
returns c =
    let last : c.loop-n.n ≡ c.args.count = omega arith in
    rw last at c.loop-n.invariant
