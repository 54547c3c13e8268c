-- The parts are put one after the other.
use Rattle.std.proofs.Common.{arith, ◌≤◌, length}
use Rattle.report_text.specs.Output.{pairs_line}
use Rattle.report_text.proofs.Appending.{put_length, put_next}
use Rattle.report_text.proofs.print.pairs.Goals as goal

pub returns : goal.returns
unfolding pairs_line
returns c =
    let e1 = c.put-count_at.ensures in
    let e2 = c.put_decimal-end.ensures in
    let e3 = c.put.ensures in
    let f1 : c.put-count_at.result ≤ length c.args.out.now = omega (arith, e1.place, c.requires) in
    let l1 = put_length e1 f1 in
    let f2 : c.put_decimal-end.result ≤ length c.put-count_at.new.out = omega (arith, l1, e1.place, e2.1, c.requires) in
    (put_next e1 f1 (put_next e2.0 f2 e3), omega (arith, e1.place, e2.1, e3.place))
