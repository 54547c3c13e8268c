use native.Mathlib.Omega.{arith}
use Rattle.manifest_names.proofs.Keying.{under_started, under_left, under_finished, place_within, key_within, place_space, place_fits, under_goes_on}
use Rattle.manifest_names.proofs.keyed.collect_under.Goals as goal

pub loop-p-init : goal.loop-p-init
loop-p-init c =
    let o = c.requires in
    under_started _ _ _ _ _ _ _ o _ (c.new-left.ensures.elements_left o.list.values o.list.here)

pub next-requires : goal.next-requires
next-requires c = under_left _ _ _ _ _ _ _ _ _ _ _ c.loop-p.invariant

pub overflow_cast-names : goal.overflow_cast-names
overflow_cast-names c =
    let p = c.loop-p.invariant in
    omega (arith, place_within _ _ _ _ _ _ _ _ _ _ _ p _ _ (c.in-Some.ensures p.others p.here), c.requires.list.short)

pub offset_bounds-names-i : goal.offset_bounds-names-i
offset_bounds-names-i c =
    let p = c.loop-p.invariant in
    omega (arith, place_fits _ _ _ _ _ _ _ _ _ _ _ p _ _ (c.in-Some.ensures p.others p.here), p.size)

pub bounds-names-i : goal.bounds-names-i
bounds-names-i c =
    let p = c.loop-p.invariant in
    place_fits _ _ _ _ _ _ _ _ _ _ _ p _ _ (c.in-Some.ensures p.others p.here)

pub overflow_cast-keys : goal.overflow_cast-keys
overflow_cast-keys c =
    let p = c.loop-p.invariant in
    omega (arith, key_within _ _ _ _ _ _ _ _ _ _ _ p _ _ (c.in-Some.ensures p.others p.here), c.requires.list.short)

pub offset_bounds-keys-p : goal.offset_bounds-keys-p
offset_bounds-keys-p c =
    let p = c.loop-p.invariant in
    omega (arith, place_space _ _ _ _ _ _ _ _ _ _ _ p _ _ (c.in-Some.ensures p.others p.here), p.key_size)

pub bounds-keys-p : goal.bounds-keys-p
bounds-keys-p c =
    let p = c.loop-p.invariant in
    place_space _ _ _ _ _ _ _ _ _ _ _ p _ _ (c.in-Some.ensures p.others p.here)

pub overflow_add-i : goal.overflow_add-i
overflow_add-i c =
    let p = c.loop-p.invariant in
    omega (arith, place_fits _ _ _ _ _ _ _ _ _ _ _ p _ _ (c.in-Some.ensures p.others p.here), p.size)

pub loop-p-smaller : goal.loop-p-smaller
loop-p-smaller c =
    let p = c.loop-p.invariant in
    let x = c.in-Some.ensures p.others p.here in
    omega (arith, x.later, x.within)

pub loop-p-preserved : goal.loop-p-preserved
loop-p-preserved c =
    let p = c.loop-p.invariant in
    under_goes_on _ _ _ _ _ _ _ _ _ _ _ p _ _ (c.in-Some.ensures p.others p.here)

pub returns : goal.returns
returns c =
    let p = c.loop-p.invariant in
    under_finished _ _ _ _ _ _ _ _ _ _ _ p (c.in_default.ensures p.others p.here)
