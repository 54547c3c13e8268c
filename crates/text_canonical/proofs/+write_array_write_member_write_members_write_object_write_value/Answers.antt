use Rattle.std.proofs.Common.{arith}
use mathlib.Core.Path.{refl, sym, ◌∙◌}
use lib.ListN.{length-set}
use Rattle.laws.proofs.Writing as Written
use Rattle.text_view.proofs.Values.{within}
use Rattle.text_canonical.proofs.Values.{writable_array, writable_object}
use Rattle.text_canonical.proofs.Marks.{from_mark}
use Rattle.text_canonical.proofs.Arrays
use Rattle.text_canonical.proofs.Objects
use Rattle.text_canonical.proofs.MemberParts
use Rattle.text_canonical.proofs.+write_array_write_member_write_members_write_object_write_value.Goals as goal

pub write_array-bounds-out-0 : goal.write_array-bounds-out-0
write_array-bounds-out-0 t c = Arrays.mark_fits c.requires

pub write_array-overflow_add-i : goal.write_array-overflow_add-i
write_array-overflow_add-i t c = omega (arith, within _ _ _ _ c.requires.space.here, c.well_formed)

pub write_array-loop-value-init : goal.write_array-loop-value-init
write_array-loop-value-init t c = record { written = Arrays.started c.requires; same_keys = refl; same_spare = refl }

pub write_array-read_item-requires : goal.write_array-read_item-requires
write_array-read_item-requires t c = Arrays.items_left c.loop-value.invariant.written

pub write_array-separate-n-requires : goal.write_array-separate-n-requires
write_array-separate-n-requires t c =
    let p = c.loop-value.invariant.written in
    let given = c.in-At.ensures p.trees p.rest p.left in
    Arrays.comma_fits p _ _ _ given

pub write_array-slice_bounds-write_value-count : goal.write_array-slice_bounds-write_value-count
write_array-slice_bounds-write_value-count t c =
    let p = c.loop-value.invariant.written in
    let given = c.in-At.ensures p.trees p.rest p.left in
    let w = c.separate-n.ensures.by_index _ _ p.size p.written in
    Arrays.part_fits p _ _ _ given _ _ c.separate-n.ensures.value w

pub write_array-write_value-n-requires : goal.write_array-write_value-n-requires
write_array-write_value-n-requires t c =
    let p = c.loop-value.invariant.written in
    let given = c.in-At.ensures p.trees p.rest p.left in
    let w = c.separate-n.ensures.by_index _ _ p.size p.written in
    let e = Arrays.element p _ _ _ given _ _ c.separate-n.ensures.value w in
    (omega (arith, c.decreases, p.some), e _ _ c.loop-value.invariant.same_keys c.loop-value.invariant.same_spare)

pub write_array-overflow_add-n : goal.write_array-overflow_add-n
write_array-overflow_add-n t c =
    let p = c.loop-value.invariant.written in
    let given = c.in-At.ensures p.trees p.rest p.left in
    let w = c.separate-n.ensures.by_index _ _ p.size p.written in
    let f = Arrays.next_fits p _ _ _ given _ _ c.separate-n.ensures.value w _ _ c.write_value-n.ensures in
    omega (arith, f, length-set c.args.out.now 0 0x5B, c.well_formed)

pub write_array-loop-value-smaller : goal.write_array-loop-value-smaller
write_array-loop-value-smaller t c =
    let p = c.loop-value.invariant.written in
    let given = c.in-At.ensures p.trees p.rest p.left in
    omega (arith, Arrays.later p _ _ _ given)

pub write_array-loop-value-preserved : goal.write_array-loop-value-preserved
write_array-loop-value-preserved t c =
    let p = c.loop-value.invariant.written in
    let given = c.in-At.ensures p.trees p.rest p.left in
    let w = c.separate-n.ensures.by_index _ _ p.size p.written in
    let v = c.write_value-n in
    record {
      written = Arrays.advanced p _ _ _ given _ _ c.separate-n.ensures.value w _ _ v.ensures;
      same_keys = v.auto.keys ∙ c.loop-value.invariant.same_keys;
      same_spare = v.auto.spare ∙ c.loop-value.invariant.same_spare;
    }

pub write_array-bounds-out-n : goal.write_array-bounds-out-n
write_array-bounds-out-n t c =
    let p = c.loop-value.invariant.written in
    let ended = c.in-End.ensures p.trees p.rest p.left in
    Arrays.end_fits p _ ended

pub write_array-overflow_add-result : goal.write_array-overflow_add-result
write_array-overflow_add-result t c =
    let p = c.loop-value.invariant.written in
    let ended = c.in-End.ensures p.trees p.rest p.left in
    omega (arith, Arrays.end_fits p _ ended, Written.same_length p.written, length-set c.args.out.now 0 0x5B, c.well_formed)

pub write_array-returns-in-End : goal.write_array-returns-in-End
write_array-returns-in-End t c =
    let p = c.loop-value.invariant.written in
    let ended = c.in-End.ensures p.trees p.rest p.left in
    λ v h. from_mark _ 0x5B _ (Arrays.finished p _ ended v h)

pub write_member-write_string-n-requires : goal.write_member-write_string-n-requires
write_member-write_string-n-requires t c = (MemberParts.key_inside c.requires, MemberParts.key_fits c.requires)

pub write_member-bounds-out-n : goal.write_member-bounds-out-n
write_member-bounds-out-n t c = MemberParts.colon_fits c.requires _ _ c.write_string-n.ensures

pub write_member-item_value-value-requires : goal.write_member-item_value-value-requires
write_member-item_value-value-requires t c = MemberParts.item c.requires

pub write_member-slice_bounds-write_value-count : goal.write_member-slice_bounds-write_value-count
write_member-slice_bounds-write_value-count t c = MemberParts.part_fits c.requires _ _ c.write_string-n.ensures

pub write_member-slice_bounds-write_value-start : goal.write_member-slice_bounds-write_value-start
write_member-slice_bounds-write_value-start t c = MemberParts.part_fits c.requires _ _ c.write_string-n.ensures

pub write_member-write_value-requires : goal.write_member-write_value-requires
write_member-write_value-requires t c =
    (omega (arith, c.decreases), MemberParts.value c.requires _ _ c.write_string-n.ensures _ c.item_value-value.ensures)

pub write_member-overflow_add-result : goal.write_member-overflow_add-result
write_member-overflow_add-result t c =
    let f = MemberParts.result_fits c.requires _ _ c.write_string-n.ensures _ c.item_value-value.ensures _ _ c.write_value.ensures in
    omega (arith, f, c.well_formed)

pub write_member-returns : goal.write_member-returns
write_member-returns t c = MemberParts.completed c.requires _ _ c.write_string-n.ensures _ c.item_value-value.ensures _ _ c.write_value.ensures

pub write_members-bounds-out-0 : goal.write_members-bounds-out-0
write_members-bounds-out-0 t c = Objects.mark_fits c.requires

pub write_members-loop-i-init : goal.write_members-loop-i-init
write_members-loop-i-init t c = record { written = Objects.started c.requires; same_spare = refl }

pub write_members-separate-n-requires : goal.write_members-separate-n-requires
write_members-separate-n-requires t c = Objects.comma_fits c.loop-i.invariant.written c.loop-i-test.true

pub write_members-slice_bounds-write_member-count : goal.write_members-slice_bounds-write_member-count
write_members-slice_bounds-write_member-count t c =
    let p = c.loop-i.invariant.written in
    let w = c.separate-n.ensures.by_index _ _ p.size p.written in
    Objects.part_fits p c.loop-i-test.true _ _ c.separate-n.ensures.value w

pub write_members-write_member-n-requires : goal.write_members-write_member-n-requires
write_members-write_member-n-requires t c =
    let p = c.loop-i.invariant.written in
    let w = c.separate-n.ensures.by_index _ _ p.size p.written in
    let e = Objects.member p c.loop-i-test.true _ _ c.separate-n.ensures.value w in
    (omega (arith, c.decreases, p.some), e _ c.loop-i.invariant.same_spare)

pub write_members-overflow_add-n : goal.write_members-overflow_add-n
write_members-overflow_add-n t c =
    let p = c.loop-i.invariant.written in
    let w = c.separate-n.ensures.by_index _ _ p.size p.written in
    let f = Objects.next_fits p c.loop-i-test.true _ _ c.separate-n.ensures.value w _ _ c.write_member-n.ensures in
    omega (arith, f, length-set c.args.out.now 0 0x7B, c.well_formed)

pub write_members-loop-i-preserved : goal.write_members-loop-i-preserved
write_members-loop-i-preserved t c =
    let p = c.loop-i.invariant.written in
    let w = c.separate-n.ensures.by_index _ _ p.size p.written in
    let m = c.write_member-n in
    record {
      written = Objects.advanced p c.loop-i-test.true _ _ c.separate-n.ensures.value w _ _ m.ensures m.new.keys m.auto.keys;
      same_spare = m.auto.spare ∙ c.loop-i.invariant.same_spare;
    }

pub write_members-bounds-out-n : goal.write_members-bounds-out-n
write_members-bounds-out-n t c = Objects.end_fits c.loop-i.invariant.written c.loop-i-test.false

pub write_members-overflow_add-result : goal.write_members-overflow_add-result
write_members-overflow_add-result t c =
    let p = c.loop-i.invariant.written in
    omega (arith, Objects.end_fits p c.loop-i-test.false, Written.same_length p.written, length-set c.args.out.now 0 0x7B, c.well_formed)

pub write_members-returns : goal.write_members-returns
write_members-returns t c = λ v h. from_mark _ 0x7B _ (Objects.finished c.loop-i.invariant.written c.loop-i-test.false v h)

pub write_object-sorted_keys-count-requires : goal.write_object-sorted_keys-count-requires
write_object-sorted_keys-count-requires t c = Objects.keys_space c.requires

pub write_object-write_members-requires : goal.write_object-write_members-requires
write_object-write_members-requires t c =
    let f = c.sorted_keys-count in
    (omega (arith, c.decreases), Objects.keys_given c.requires _ _ _ f.auto.keys f.auto.spare f.ensures)

pub write_value-kind-kind-requires : goal.write_value-kind-kind-requires
write_value-kind-kind-requires t c = record { depth = c.args.depth; value = c.requires.value; here = c.requires.space.here }

pub write_value-write_array-requires : goal.write_value-write_array-requires
write_value-write_array-requires t c =
    let k = c.kind-kind.ensures c.args.depth c.requires.value c.requires.space.here in
    (omega (arith, c.decreases), writable_array c.requires (sym c.in-Array.is ∙ k))

pub write_value-write_object-requires : goal.write_value-write_object-requires
write_value-write_object-requires t c =
    let k = c.kind-kind.ensures c.args.depth c.requires.value c.requires.space.here in
    (omega (arith, c.decreases), writable_object c.requires (sym c.in-Object.is ∙ k))

pub write_value-write_scalar-requires : goal.write_value-write_scalar-requires
write_value-write_scalar-requires t c =
    let p = c.requires in
    record {
      depth = c.args.depth;
      value = p.value;
      here = p.space.here;
      tells = c.kind-kind.ensures c.args.depth p.value p.space.here;
      no_array = c.in_default.not-Array;
      no_object = c.in_default.not-Object;
      form = p.space.form;
    }

pub write_value-returns-in_default : goal.write_value-returns-in_default
write_value-returns-in_default t c = c.write_scalar.ensures _
