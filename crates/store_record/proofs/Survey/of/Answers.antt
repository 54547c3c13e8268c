use Rattle.std.proofs.Common.{arith, refl}
use Rattle.store_record.proofs.Surveying.{nothing_read, all_read, too_many, no_more, one_more}
use Rattle.store_record.proofs.Survey.of.Goals as goal

pub loop-i-init : goal.loop-i-init
loop-i-init c = nothing_read _ _ refl

pub returns-then-count-eq-MOST_IMAGES : goal.returns-then-count-eq-MOST_IMAGES
returns-then-count-eq-MOST_IMAGES c = too_many _ _ _ _ c.loop-i.invariant c.loop-i-test.true (omega (arith, c.if-count-eq-MOST_IMAGES.true))

pub returns-in_err-r : goal.returns-in_err-r
returns-in_err-r c =
    rw c.from_residual.ensures (no_more _ _ _ _ c.loop-i.invariant c.loop-i-test.true
    (omega (arith, c.if-count-eq-MOST_IMAGES.false, c.loop-i.invariant.few)) c.in_err-r.ensures)

pub loop-i-smaller : goal.loop-i-smaller
loop-i-smaller c = omega (arith, c.in_ok-r.ensures.later, c.loop-i-test.true)

pub loop-i-preserved : goal.loop-i-preserved
loop-i-preserved c =
    one_more _ _ _ _ c.loop-i.invariant c.loop-i-test.true (omega (arith, c.if-count-eq-MOST_IMAGES.false, c.loop-i.invariant.few)) _ c.in_ok-r.ensures

pub returns : goal.returns
returns c = all_read _ _ _ _ c.loop-i.invariant c.loop-i-test.false
