use native.Mathlib.Omega.{arith}
use Rattle.manifest_names.proofs.Keying.{with_started, with_left, with_within, with_finished, keyable, with_goes_on}
use Rattle.manifest_names.proofs.keyed.collect_contents.Goals as goal

pub loop-key-init : goal.loop-key-init
loop-key-init c =
    let o = c.requires in
    with_started _ _ _ _ _ o _ (c.new-left.ensures.members_left o.group.fields o.group.here)

pub next-requires : goal.next-requires
next-requires c = with_left _ _ _ _ _ _ _ _ _ c.loop-key.invariant

pub collect_under-n-requires : goal.collect_under-n-requires
collect_under-n-requires c =
    let p = c.loop-key.invariant in
    keyable _ _ _ _ _ _ _ _ _ p _ _ _ (c.in-Some.ensures p.others p.here)

pub loop-key-smaller : goal.loop-key-smaller
loop-key-smaller c =
    let p = c.loop-key.invariant in
    let x = c.in-Some.ensures p.others p.here in
    omega (arith, x.later, x.within)

pub loop-key-preserved : goal.loop-key-preserved
loop-key-preserved c =
    let p = c.loop-key.invariant in
    let k = c.collect_under-n.auto in
    with_goes_on _ _ _ _ _ _ _ _ _ p _ _ _ (c.in-Some.ensures p.others p.here) _ _ _ k.names k.keys c.collect_under-n.ensures

pub returns : goal.returns
returns c =
    let p = c.loop-key.invariant in
    (with_within _ _ _ _ _ _ _ _ _ p, with_finished _ _ _ _ _ _ _ _ _ p (c.in_default.ensures p.others p.here))
