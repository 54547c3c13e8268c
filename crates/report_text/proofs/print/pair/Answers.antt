-- The parts are put one after the other.
use Rattle.std.proofs.Common.{arith, ◌≤◌, length}
use Rattle.report_text.specs.Output.{pair_line}
use Rattle.report_text.proofs.Appending.{put_length, put_next}
use Rattle.report_text.proofs.print.pair.Goals as goal

pub returns : goal.returns
unfolding pair_line
returns c =
    let e1 = c.put_decimal-space_at.ensures in
    let e2 = c.put-other_at.ensures in
    let e3 = c.put_decimal-end.ensures in
    let e4 = c.put.ensures in
    let f1 : c.put_decimal-space_at.result ≤ length c.args.out.now = omega (arith, e1.1, c.requires) in
    let l1 = put_length e1.0 f1 in
    let f2 : c.put-other_at.result ≤ length c.put_decimal-space_at.new.out = omega (arith, l1, e1.1, e2.place, c.requires) in
    let l2 = put_length e2 f2 in
    let f3 : c.put_decimal-end.result ≤ length c.put-other_at.new.out = omega (arith, l1, l2, e1.1, e2.place, e3.1, c.requires) in
    (put_next e1.0 f1 (put_next e2 f2 (put_next e3.0 f3 e4)), omega (arith, e1.1, e2.place, e3.1, e4.place))
