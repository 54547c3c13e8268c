use Rattle.std.proofs.Common.{arith, Ok, Err, ◌+◌, drop}
use Rattle.std.proofs.lemmas.Result.{err_from_is_err_and}
use Rattle.text_json.specs.Read.{read_some_digits, read_frac}
use Rattle.text_numbers.proofs.NumberSteps.{frac_end, frac_stop, frac_more}
use Rattle.text_numbers.proofs.Numerals.{part_read}
use Rattle.text_numbers.proofs.frac.Goals as goal

pub returns-then-s-at : goal.returns-then-s-at
returns-then-s-at c = record { past = omega arith; inside = c.requires; read = frac_end _ _ c.if-s-at.true }

pub returns-then-s-at-ne46 : goal.returns-then-s-at-ne46
returns-then-s-at-ne46 c = record { past = omega arith; inside = omega arith; read = frac_stop _ _ c.if-s-at.false c.if-s-at-ne46.true }

pub returns-in_err-end : goal.returns-in_err-end
returns-in_err-end c =
    let p = err_from_is_err_and c.from_residual.result c.from_residual.ensures.1 in
    let here = frac_more c.args.s.now c.args.at c.if-s-at.false c.if-s-at-ne46.false in
    rw (p.1, p.2) (part_read c.args.s.now c.args.at (read_some_digits (drop (c.args.at + 1) c.args.s.now)) (read_frac (drop c.args.at c.args.s.now)) here (Err c.in_err-end.field-0.0) c.in_err-end.ensures)

pub returns : goal.returns
returns c =
    let here = frac_more c.args.s.now c.args.at c.if-s-at.false c.if-s-at-ne46.false in
    part_read c.args.s.now c.args.at (read_some_digits (drop (c.args.at + 1) c.args.s.now)) (read_frac (drop c.args.at c.args.s.now)) here (Ok c.in_ok-end.end) c.in_ok-end.ensures
