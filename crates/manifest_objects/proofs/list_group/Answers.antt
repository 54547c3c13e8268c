use native.Mathlib.Omega.{arith}
use Rattle.manifest_objects.proofs.Listing.{group_started, group_left, group_within, group_finished, next_number, listable, group_goes_on}
use Rattle.manifest_objects.proofs.list_group.Goals as goal

pub loop-value-init : goal.loop-value-init
loop-value-init c =
    let o = c.requires in
    group_started _ _ _ _ _ o _ (c.new-left.ensures.members_left o.group.fields o.group.here)

pub next-requires : goal.next-requires
next-requires c = group_left _ _ _ _ _ _ _ _ _ _ c.loop-value.invariant

pub list_under-n-requires : goal.list_under-n-requires
list_under-n-requires c =
    let p = c.loop-value.invariant in
    listable _ _ _ _ _ _ _ _ _ _ p _ _ _ (c.in-Some.ensures p.others p.here)

pub overflow_add-object : goal.overflow_add-object
overflow_add-object c =
    let p = c.loop-value.invariant in
    omega (arith, next_number _ _ _ _ _ _ _ _ _ _ p _ _ _ (c.in-Some.ensures p.others p.here))

pub loop-value-smaller : goal.loop-value-smaller
loop-value-smaller c =
    let p = c.loop-value.invariant in
    let x = c.in-Some.ensures p.others p.here in
    omega (arith, x.later, x.within)

pub loop-value-preserved : goal.loop-value-preserved
loop-value-preserved c =
    let p = c.loop-value.invariant in
    let k = c.list_under-n.auto in
    group_goes_on _ _ _ _ _ _ _ _ _ _ p _ _ _ (c.in-Some.ensures p.others p.here) _ _ _ k.names k.owners c.list_under-n.ensures

pub returns : goal.returns
returns c =
    let p = c.loop-value.invariant in
    (group_within _ _ _ _ _ _ _ _ _ _ p, group_finished _ _ _ _ _ _ _ _ _ _ p (c.in_default.ensures p.others p.here))
