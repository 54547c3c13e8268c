use native.Mathlib.Omega.{arith}
use Rattle.manifest_names.proofs.Objects.{started, some_left, no_key, member_value, key_found, goes_on}
use Rattle.manifest_names.proofs.object.object_in.Goals as goal

pub loop-key-init : goal.loop-key-init
loop-key-init c =
    let o = c.requires.0 in
    started _ _ _ _ o _ (c.new-left.ensures.members_left o.fields o.here)

pub next-requires : goal.next-requires
next-requires c = some_left _ _ _ _ _ _ c.loop-key.invariant

pub is_in_list-requires : goal.is_in_list-requires
is_in_list-requires c =
    let p = c.loop-key.invariant in
    let x = c.in-Some.ensures p.others p.here in
    (c.requires.1, member_value _ _ _ _ _ _ p _ _ _ x)

pub returns-then-is_in_list : goal.returns-then-is_in_list
returns-then-is_in_list c =
    let p = c.loop-key.invariant in
    let x = c.in-Some.ensures p.others p.here in
    key_found _ _ _ _ _ _ p _ _ _ x _ (c.is_in_list.ensures x.first x.here) c.if-is_in_list.true

pub overflow_add-index : goal.overflow_add-index
overflow_add-index c =
    let p = c.loop-key.invariant in
    let x = c.in-Some.ensures p.others p.here in
    omega (arith, x.later, x.within, p.space)

pub loop-key-smaller : goal.loop-key-smaller
loop-key-smaller c =
    let p = c.loop-key.invariant in
    let x = c.in-Some.ensures p.others p.here in
    omega (arith, x.later, x.within)

pub loop-key-preserved : goal.loop-key-preserved
loop-key-preserved c =
    let p = c.loop-key.invariant in
    let x = c.in-Some.ensures p.others p.here in
    goes_on _ _ _ _ _ _ p _ _ _ x _ (c.is_in_list.ensures x.first x.here) c.if-is_in_list.false

pub returns : goal.returns
returns c =
    let p = c.loop-key.invariant in
    no_key _ _ _ _ _ _ p (c.in_default.ensures p.others p.here)
