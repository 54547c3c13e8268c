use Rattle.std.proofs.Common.{arith, Ok, Err, ◌+◌, drop}
use Rattle.std.proofs.lemmas.Result.{err_from_is_err_and}
use mathlib.Core.Path.{sym, ◌∙◌}
use Rattle.text_json.specs.Read.{read_signed, read_exp}
use Rattle.text_numbers.proofs.NumberSteps.{exp_end, exp_stop, exp_more}
use Rattle.text_numbers.proofs.Numerals.{part_read}
use Rattle.text_numbers.proofs.exp.Goals as goal

pub returns-then-s-at : goal.returns-then-s-at
returns-then-s-at c = record { past = omega arith; inside = c.requires; read = exp_end _ _ c.if-s-at.true }

pub returns-then-not-is_exp : goal.returns-then-not-is_exp
returns-then-not-is_exp c =
    record { past = omega arith; inside = omega arith; read = exp_stop _ _ c.if-s-at.false (sym c.is_exp.ensures ∙ c.if-not-is_exp.true) }

pub returns-in_err-end : goal.returns-in_err-end
returns-in_err-end c =
    let p = err_from_is_err_and c.from_residual.result c.from_residual.ensures.1 in
    let here = exp_more c.args.s.now c.args.at c.if-s-at.false (sym c.is_exp.ensures ∙ c.if-not-is_exp.false) in
    rw (p.1, p.2) (part_read c.args.s.now c.args.at (read_signed (drop (c.args.at + 1) c.args.s.now)) (read_exp (drop c.args.at c.args.s.now)) here (Err c.in_err-end.field-0.0) c.in_err-end.ensures)

pub returns : goal.returns
returns c =
    let here = exp_more c.args.s.now c.args.at c.if-s-at.false (sym c.is_exp.ensures ∙ c.if-not-is_exp.false) in
    part_read c.args.s.now c.args.at (read_signed (drop (c.args.at + 1) c.args.s.now)) (read_exp (drop c.args.at c.args.s.now)) here (Ok c.in_ok-end.end) c.in_ok-end.ensures
