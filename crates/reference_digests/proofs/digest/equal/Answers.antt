-- One byte more of both is compared with each step. Assumes nothing.
use mathlib.Core.Path.{sym, ◌∙◌}
use native.Mathlib.Omega.{arith}
use Rattle.laws.proofs.Order.{other_length}
use Rattle.reference_digests.proofs.Comparing.{same_end, same_next}
use Rattle.reference_digests.proofs.digest.equal.Goals as goal

pub returns-then-a-b : goal.returns-then-a-b
returns-then-a-b c = sym (other_length _ _ c.if-a-b.true)

pub loop-i-preserved : goal.loop-i-preserved
loop-i-preserved c =
    let v = c.loop-i.invariant in
    (v.0, sym (same_next c.args.a.now c.args.b.now c.loop-i.all c.loop-i.i (omega arith) (omega arith)) ∙ v.1)

pub returns : goal.returns
returns c =
    let v = c.loop-i.invariant in
    sym (same_end c.args.a.now c.args.b.now c.loop-i.all c.loop-i.i (omega arith) (omega arith)) ∙ v.1
