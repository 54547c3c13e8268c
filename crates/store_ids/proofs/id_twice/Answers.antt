use Rattle.std.proofs.Common.{refl, sym, ◌∙◌, arith}
use Rattle.store_record.specs.Ids.{share_id, id_twice}
use Rattle.store_record.specs.Reading.{between}
use Rattle.store_record.proofs.Ids.{shares_some}
use Rattle.store_record.proofs.Walks.{pair_image_end, pair_here, pair_next}
use Rattle.store_ids.proofs.id_twice.Goals as goal

pub loop-i-init : goal.loop-i-init
unfolding id_twice
loop-i-init c = refl

pub bounds-v-i : goal.bounds-v-i
bounds-v-i c = omega (arith, c.requires.few)

pub slice_bounds-is_held-count : goal.slice_bounds-is_held-count
slice_bounds-is_held-count c = omega (arith, (c.requires.each c.loop-i.i c.loop-i-test.true).signer)

pub slice_bounds-is_held-start : goal.slice_bounds-is_held-start
slice_bounds-is_held-start c = omega (arith, (c.requires.each c.loop-i.i c.loop-i-test.true).signer)

pub slice_bounds-is_held-end : goal.slice_bounds-is_held-end
slice_bounds-is_held-end c = let r = c.requires.each c.loop-i.i c.loop-i-test.true in omega (arith, r.manifest, r.text, r.within)

pub slice_bounds-is_held-count-in-loop-i : goal.slice_bounds-is_held-count-in-loop-i
slice_bounds-is_held-count-in-loop-i c = omega (arith, (c.requires.each c.loop-i.i c.loop-i-test.true).manifest)

pub slice_bounds-is_held-start-in-loop-i : goal.slice_bounds-is_held-start-in-loop-i
slice_bounds-is_held-start-in-loop-i c = omega (arith, (c.requires.each c.loop-i.i c.loop-i-test.true).manifest)

pub slice_bounds-is_held-end-in-loop-i : goal.slice_bounds-is_held-end-in-loop-i
slice_bounds-is_held-end-in-loop-i c = let r = c.requires.each c.loop-i.i c.loop-i-test.true in omega (arith, r.text, r.within)

pub returns-then-is_held : goal.returns-then-is_held
unfolding between
returns-then-is_held c =
    sym (pair_here c.args.s.now c.args.v (omega (arith, c.requires.few)) c.loop-i.i c.loop-i-test.true share_id
    (shares_some c.args.s.now _ _ ∙ sym c.is_held.ensures ∙ c.if-is_held.true)) ∙ c.loop-i.invariant

pub loop-i-preserved : goal.loop-i-preserved
unfolding between
loop-i-preserved c =
    sym (pair_next c.args.s.now c.args.v (omega (arith, c.requires.few)) c.loop-i.i c.loop-i-test.true share_id
    (shares_some c.args.s.now _ _ ∙ sym c.is_held.ensures ∙ c.if-is_held.false)) ∙ c.loop-i.invariant

pub returns : goal.returns
returns c =
    sym (pair_image_end c.args.s.now c.args.v (omega (arith, c.requires.few)) c.loop-i.i share_id c.loop-i-test.false) ∙ c.loop-i.invariant
