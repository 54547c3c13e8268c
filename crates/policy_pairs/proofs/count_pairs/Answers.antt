use Rattle.std.proofs.Common.{refl, ap, ◌∙◌, arith, length, length-append}
use Rattle.policy_marks.specs.Pairs.{pairs_from}
use Rattle.policy_pairs.proofs.Listing.{with_few, from_next, from_few}
use Rattle.policy_pairs.proofs.Reported.{reported, row_pairs, table_pairs, all_pairs}
use Rattle.policy_pairs.proofs.count_pairs.Goals as goal

pub loop-g-init : goal.loop-g-init
unfolding pairs_from
loop-g-init c = refl

pub overflow_add-n : goal.overflow_add-n
overflow_add-n c =
    let t = c.args.t in
    omega (arith, c.loop-g.invariant, c.count_row-n.ensures, from_few (reported t) t.count c.requires 0 c.loop-g.g, with_few (reported t) c.loop-g.g 0 t.count)

pub loop-g-preserved : goal.loop-g-preserved
loop-g-preserved c =
    let t = c.args.t in
    let g = c.loop-g.g in
    omega (
      arith,
      c.loop-g.invariant,
      c.count_row-n.ensures,
      ap length (from_next (reported t) t.count g),
      length-append (table_pairs t g) (row_pairs t g t.count),
    )

pub returns : goal.returns
returns c = c.loop-g.invariant ∙ ap length (all_pairs c.args.t c.loop-g.g (omega arith))
