use Rattle.std.proofs.Common.{◌≡◌, arith, below_more, length}
use Rattle.lines.proofs.find.Goals as goal

pub loop-i-preserved : goal.loop-i-preserved
loop-i-preserved c = below_more _ _ c.loop-i.invariant (λ h. c.if-s-i.false)

pub returns-then-s-i : goal.returns-then-s-i
returns-then-s-i c =
    record { start = omega arith; within = omega arith; before = λ k h g. c.loop-i.invariant k g h; found = λ h. c.if-s-i.true }

pub returns : goal.returns
returns c =
    let n : c.loop-i.i ≡ length c.args.s.now = omega arith in
    record { start = omega arith; within = omega arith; before = λ k h g. c.loop-i.invariant k (omega arith) h; found = λ h. absurd (omega arith) }
