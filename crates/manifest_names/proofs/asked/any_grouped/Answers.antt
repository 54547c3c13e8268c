use native.Mathlib.Omega.{arith}
use Rattle.text_strings.proofs.Cursors.{inside_within}
use Rattle.manifest_names.proofs.Walking.{named_started, some_members, not_in_named, alias_list, key_inside, in_named, named_goes_on}
use Rattle.manifest_names.proofs.asked.any_grouped.Goals as goal

pub loop-key-init : goal.loop-key-init
loop-key-init c = named_started _ _ _ _ c.requires.2 _ c.new-left.ensures.members_left

pub next-requires : goal.next-requires
next-requires c = some_members _ _ _ _ _ c.loop-key.invariant

pub overflow_add-key : goal.overflow_add-key
overflow_add-key c =
    let p = c.loop-key.invariant in
    omega (arith, inside_within _ _ (key_inside _ _ _ _ _ p _ _ _ (c.in-Some.ensures p.others p.here)))

pub any_listed-requires : goal.any_listed-requires
any_listed-requires c =
    let p = c.loop-key.invariant in
    let x = c.in-Some.ensures p.others p.here in
    (c.requires.0, c.requires.1, key_inside _ _ _ _ _ p _ _ _ x, alias_list _ _ _ _ _ p _ _ _ x)

pub returns-then-any_listed : goal.returns-then-any_listed
returns-then-any_listed c =
    let p = c.loop-key.invariant in
    in_named _ _ _ _ _ p _ _ _ (c.in-Some.ensures p.others p.here) _ c.any_listed.ensures c.if-any_listed.true

pub loop-key-smaller : goal.loop-key-smaller
loop-key-smaller c =
    let p = c.loop-key.invariant in
    let x = c.in-Some.ensures p.others p.here in
    omega (arith, x.later, x.within)

pub loop-key-preserved : goal.loop-key-preserved
loop-key-preserved c =
    let p = c.loop-key.invariant in
    named_goes_on _ _ _ _ _ p _ _ _ (c.in-Some.ensures p.others p.here) _ c.any_listed.ensures c.if-any_listed.false

pub returns : goal.returns
returns c =
    let p = c.loop-key.invariant in
    not_in_named _ _ _ _ _ p (c.in_default.ensures p.others p.here)
