use Rattle.std.proofs.Common.{refl, sym, ap, subst, ◌∙◌, arith, ◌≤◌, ◌+◌, ◌*◌, ◌-◌, length, drop, length-append, ℕ, ◌++◌}
use borrow.Rule.Slice.PartMut.{put_mid}
use Rattle.policy_marks.specs.Pairs.{pairs_from, pairs_in, report_of}
use Rattle.policy_marks.specs.Words.{guards_in, rows_in}
use Rattle.policy_pairs.proofs.Listing.{from_next, from_grows}
use Rattle.policy_pairs.proofs.Reported.{reported, row_pairs, table_pairs, all_pairs}
use Rattle.policy_pairs.proofs.Writing.{WritesPairs, no_pairs_written, written_by, left_length, more_written, pairs_written}
use Rattle.policy_pairs.proofs.write_pairs.Goals as goal
use Rattle.policy_pairs.proofs.write_pairs.Goals.{After-write_row-n}

pub loop-g-init : goal.loop-g-init
unfolding pairs_from
loop-g-init c = no_pairs_written _

-- there is room for the next guard's pairs
room : (c : goal.In-loop-g) → c.loop-g.n + 2 * length (row_pairs c.args.t c.loop-g.g c.args.t.count) ≤ length c.args.out.now
room c =
    let t = c.args.t in
    let g = c.loop-g.g in
    omega (
      arith,
      c.requires.1,
      c.loop-g.invariant.size,
      ap length (from_next (reported t) t.count g),
      length-append (table_pairs t g) (row_pairs t g t.count),
      ap length (all_pairs t t.count refl),
      from_grows (reported t) t.count (g + 1) t.count (omega arith),
    )

pub slice_bounds-write_row-count : goal.slice_bounds-write_row-count
slice_bounds-write_row-count c = omega (arith, room c)

pub slice_bounds-write_row-start : goal.slice_bounds-write_row-start
slice_bounds-write_row-start c = slice_bounds-write_row-count c

pub write_row-n-requires : goal.write_row-n-requires
write_row-n-requires c = (omega arith, omega arith, omega (arith, room c.before, left_length c.loop-g.invariant))

-- the slice with the next guard's pairs
next : (c : After-write_row-n) →
    WritesPairs c.args.out.now (put_mid c.loop-g.n (length c.loop-g.out - c.loop-g.n) c.loop-g.out c.write_row-n.new.out)
    (c.loop-g.n + c.write_row-n.result) (table_pairs c.args.t (c.loop-g.g + 1))
next c =
    let t = c.args.t in
    let g = c.loop-g.g in
    let w = c.loop-g.invariant in
    subst (WritesPairs _ _ _) (sym (from_next (reported t) t.count g))
    (more_written w _ _ (row_pairs t g t.count)
    (written_by _ _ _ _ c.write_row-n.ensures.value (omega (arith, room c.before.before, left_length w, c.write_row-n.ensures.value))
    c.write_row-n.ensures.out_after))

pub overflow_add-n : goal.overflow_add-n
overflow_add-n c = omega (arith, room c.before.before.before.before.before, c.write_row-n.ensures.value)

pub loop-g-preserved : goal.loop-g-preserved
loop-g-preserved c = next c.before.before.before

pub returns : goal.returns
returns c =
    let t = c.args.t in
    let w = subst (WritesPairs c.args.out.now c.loop-g.out c.loop-g.n) (all_pairs t c.loop-g.g (omega arith)) c.loop-g.invariant in
    pairs_written w ∙ ap (λ (k : ℕ). report_of (pairs_in (guards_in t) (rows_in t)) ++ drop k c.args.out.now) w.size
