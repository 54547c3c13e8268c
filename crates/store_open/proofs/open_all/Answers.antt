use borrow.Author.Tests.{not-true, not-false}
use Rattle.std.proofs.Common.{refl, arith}
use Rattle.manifest.proofs.Opening.{good_opens}
use Rattle.store_record.specs.Reading.{between}
use Rattle.store_open.proofs.Opening.{refused_unfit, other_unfit, good_fit, nothing_opened, found_unfit, one_opened, all_opened}
use Rattle.store_open.proofs.open_all.Goals as goal

pub loop-i-init : goal.loop-i-init
loop-i-init c = nothing_opened _ _ _ refl

pub bounds-v-i : goal.bounds-v-i
bounds-v-i c = omega (arith, c.requires.0.few)

pub slice_bounds-check_with-count : goal.slice_bounds-check_with-count
slice_bounds-check_with-count c = (c.requires.0.each c.loop-i.i c.loop-i-test.true).text

pub slice_bounds-check_with-start : goal.slice_bounds-check_with-start
slice_bounds-check_with-start c = (c.requires.0.each c.loop-i.i c.loop-i-test.true).text

pub slice_bounds-check_with-end : goal.slice_bounds-check_with-end
slice_bounds-check_with-end c = (c.requires.0.each c.loop-i.i c.loop-i-test.true).within

pub check_with-requires : goal.check_with-requires
check_with-requires c =
    let p = c.requires.1 in
    let n = c.loop-i.auto in
    record { space = omega (arith, n.names, p.space); sorting = omega (arith, n.names, n.spare, p.sorting) }

pub returns-in_default : goal.returns-in_default
unfolding between
returns-in_default c =
    found_unfit c.args.b.now c.args.v (omega (arith, c.requires.0.few)) c.loop-i.places c.loop-i.i c.loop-i.invariant c.loop-i-test.true
    (refused_unfit _ _ c.check_with.ensures c.in_default.is)

pub returns-then-not-good : goal.returns-then-not-good
unfolding between
returns-then-not-good c =
    found_unfit c.args.b.now c.args.v (omega (arith, c.requires.0.few)) c.loop-i.places c.loop-i.i c.loop-i.invariant c.loop-i-test.true
    (other_unfit _ _ c.check_with.ensures c.in-Ok.is (not-true _ c.if-not-good.true))

pub bounds-places-i : goal.bounds-places-i
bounds-places-i c = omega (arith, c.requires.0.few)

pub loop-i-preserved : goal.loop-i-preserved
unfolding between
loop-i-preserved c =
    one_opened c.args.b.now c.args.v (omega (arith, c.requires.0.few)) c.loop-i.places c.loop-i.i c.loop-i.invariant c.loop-i-test.true
    (good_fit _ _ c.check_with.ensures c.in-Ok.is (not-false _ c.if-not-good.false)) c.requires.0.few _ (good_opens _ c.check_with.ensures c.in-Ok.is)

pub returns : goal.returns
returns c =
    all_opened c.args.b.now c.args.v (omega (arith, c.requires.0.few)) c.loop-i.places c.loop-i.i c.loop-i.invariant c.requires.0 c.loop-i-test.false
