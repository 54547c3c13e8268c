-- The parts are put one after the other.
use Rattle.std.proofs.Common.{arith, ◌≤◌, length}
use Rattle.report_text.specs.Output.{load_line}
use Rattle.report_text.proofs.Appending.{put_length, put_next}
use Rattle.report_text.proofs.print.load.Goals as goal

pub returns : goal.returns
unfolding load_line
returns c =
    let e1 = c.put-index_at.ensures in
    let e2 = c.put_decimal-space_at.ensures in
    let e3 = c.put-number_at.ensures in
    let e4 = c.put_decimal-end.ensures in
    let e5 = c.put.ensures in
    let f1 : c.put-index_at.result ≤ length c.args.out.now = omega (arith, e1.place, c.requires) in
    let l1 = put_length e1 f1 in
    let f2 : c.put_decimal-space_at.result ≤ length c.put-index_at.new.out = omega (arith, l1, e1.place, e2.1, c.requires) in
    let l2 = put_length e2.0 f2 in
    let f3 : c.put-number_at.result ≤ length c.put_decimal-space_at.new.out = omega (arith, l1, l2, e1.place, e2.1, e3.place, c.requires) in
    let l3 = put_length e3 f3 in
    let f4 : c.put_decimal-end.result ≤ length c.put-number_at.new.out = omega (arith, l1, l2, l3, e1.place, e2.1, e3.place, e4.1, c.requires) in
    (put_next e1 f1 (put_next e2.0 f2 (put_next e3 f3 (put_next e4.0 f4 e5))), omega (arith, e1.place, e2.1, e3.place, e4.1, e5.place))
