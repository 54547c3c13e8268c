use Rattle.std.proofs.Common.{◌≡◌, ℕ, subst, arith, ◌<◌, length}
use Rattle.store_record.specs.Reading.{between}
use Rattle.store_names.specs.Shared.{GroupsOf}
use Rattle.store_shared.proofs.Groups.{groups_none, groups_next}
use Rattle.store_shared.proofs.group_all.Goals as goal

pub loop-i-init : goal.loop-i-init
loop-i-init c = groups_none _ _ _

pub bounds-v-i : goal.bounds-v-i
bounds-v-i c = omega (arith, c.requires.0.few)

pub slice_bounds-first_signed-count : goal.slice_bounds-first_signed-count
slice_bounds-first_signed-count c = let r = c.requires.0.each _ c.loop-i-test.true in omega (arith, r.signer)

pub slice_bounds-first_signed-start : goal.slice_bounds-first_signed-start
slice_bounds-first_signed-start c = let r = c.requires.0.each _ c.loop-i-test.true in omega (arith, r.signer)

pub slice_bounds-first_signed-end : goal.slice_bounds-first_signed-end
slice_bounds-first_signed-end c = let r = c.requires.0.each _ c.loop-i-test.true in omega (arith, r.manifest, r.text, r.within)

pub overflow_cast-groups : goal.overflow_cast-groups
overflow_cast-groups c = omega (arith, c.requires.0.few, c.first_signed-g.ensures.within)

pub bounds-groups-i : goal.bounds-groups-i
bounds-groups-i c = omega (arith, c.requires.0.few)

pub loop-i-preserved : goal.loop-i-preserved
unfolding between
loop-i-preserved c =
    let l = c.loop-i in
    let here : l.i < length l.groups = omega (arith, c.requires.0.few) in
    groups_next c.args.b.now c.args.v l.groups l.i c.first_signed-g.result l.invariant here c.first_signed-g.ensures

pub returns : goal.returns
returns c =
    let e : c.loop-i.i ≡ c.args.v.count = omega arith in
    (omega arith, subst (λ (n : ℕ). GroupsOf c.args.b.now c.args.v n c.loop-i.groups) e c.loop-i.invariant)
