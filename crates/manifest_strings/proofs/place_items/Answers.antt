use Prim.Native.Nat.{◌-◌}
use native.Mathlib.Omega.{arith}
use Rattle.text_view.proofs.Values.{within}
use Rattle.manifest_strings.proofs.Items.{next_string}
use Rattle.manifest_strings.proofs.Placing.{items, started, some_list, finished, string_within, string_fits, goes_on}
use Rattle.manifest_strings.proofs.place_items.Goals as goal

pub overflow_sub-inner : goal.overflow_sub-inner
overflow_sub-inner c = omega (arith, (items c.requires).some)

pub overflow_add-left : goal.overflow_add-left
overflow_add-left c = omega (arith, within _ _ _ _ c.requires.here)

pub loop-first-init : goal.loop-first-init
loop-first-init c = started c.requires

pub read_item-requires : goal.read_item-requires
read_item-requires c = some_list c.loop-first.invariant

pub overflow_add-positions : goal.overflow_add-positions
overflow_add-positions c =
    let p = c.loop-first.invariant in
    let x = next_string c.args.s.now c.loop-first.left (c.args.depth - 1) c.args.object p.others p.rest p.first p.strings c.in-At.first _ c.in-At.next
    (c.in-At.ensures p.others p.rest p.here) in
    omega (arith, string_within p x, p.short)

pub overflow_add-positions-in-At : goal.overflow_add-positions-in-At
overflow_add-positions-in-At c =
    let p = c.loop-first.invariant in
    let x = next_string c.args.s.now c.loop-first.left (c.args.depth - 1) c.args.object p.others p.rest p.first p.strings c.in-At.first _ c.in-At.next
    (c.in-At.ensures p.others p.rest p.here) in
    omega (arith, string_within p x, p.short)

pub offset_bounds-positions-n : goal.offset_bounds-positions-n
offset_bounds-positions-n c =
    let p = c.loop-first.invariant in
    let x = next_string c.args.s.now c.loop-first.left (c.args.depth - 1) c.args.object p.others p.rest p.first p.strings c.in-At.first _ c.in-At.next
    (c.in-At.ensures p.others p.rest p.here) in
    omega (arith, string_fits p x, p.length_kept)

pub bounds-positions-n : goal.bounds-positions-n
bounds-positions-n c =
    let p = c.loop-first.invariant in
    let x = next_string c.args.s.now c.loop-first.left (c.args.depth - 1) c.args.object p.others p.rest p.first p.strings c.in-At.first _ c.in-At.next
    (c.in-At.ensures p.others p.rest p.here) in
    string_fits p x

pub overflow_add-n : goal.overflow_add-n
overflow_add-n c =
    let p = c.loop-first.invariant in
    let x = next_string c.args.s.now c.loop-first.left (c.args.depth - 1) c.args.object p.others p.rest p.first p.strings c.in-At.first _ c.in-At.next
    (c.in-At.ensures p.others p.rest p.here) in
    omega (arith, string_fits p x, p.few)

pub loop-first-smaller : goal.loop-first-smaller
loop-first-smaller c =
    let p = c.loop-first.invariant in
    let x = next_string c.args.s.now c.loop-first.left (c.args.depth - 1) c.args.object p.others p.rest p.first p.strings c.in-At.first _ c.in-At.next
    (c.in-At.ensures p.others p.rest p.here) in
    omega (arith, x.later, x.within)

pub loop-first-preserved : goal.loop-first-preserved
loop-first-preserved c =
    let p = c.loop-first.invariant in
    let x = next_string c.args.s.now c.loop-first.left (c.args.depth - 1) c.args.object p.others p.rest p.first p.strings c.in-At.first _ c.in-At.next
    (c.in-At.ensures p.others p.rest p.here) in
    goes_on p x

pub returns : goal.returns
returns c =
    let p = c.loop-first.invariant in
    (omega (arith, p.few), p.length_kept, finished p _ (c.in_default.ensures p.others p.rest p.here))
