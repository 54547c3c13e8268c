use Rattle.std.proofs.Common.{sym, arith, length-take-le}
use Rattle.report_text.proofs.Taking.{taken_within, taken_kept, taken_more}
use Rattle.roomreport.proofs.feed.Goals as goal

pub slice_bounds-answer-end : goal.slice_bounds-answer-end
slice_bounds-answer-end c = omega (arith, taken_kept c.take_part-taken.ensures)

pub slice_bounds-answer-end-then-taken : goal.slice_bounds-answer-end-then-taken
slice_bounds-answer-end-then-taken c =
    sym (length-take-le c.take_part-taken.result.length c.take_part-taken.new.kept (omega (arith, taken_kept c.take_part-taken.ensures)))

pub loop-at-smaller-then-taken : goal.loop-at-smaller-then-taken
loop-at-smaller-then-taken c =
    omega (arith, taken_more c.take_part-taken.ensures c.loop-at-test.true, taken_within c.take_part-taken.ensures)

pub loop-at-smaller : goal.loop-at-smaller
loop-at-smaller c =
    omega (arith, taken_more c.take_part-taken.ensures c.loop-at-test.true, taken_within c.take_part-taken.ensures)

pub loop-at-preserved : goal.loop-at-preserved
loop-at-preserved c = omega (arith, taken_within c.take_part-taken.ensures, taken_kept c.take_part-taken.ensures, c.with_kept-t.ensures)
