-- The letter after the backslash decides: a short escape weighs what its byte does; after a `u` the four digits are read.
use Rattle.std.proofs.Common.{arith, ◌≡◌, ◌+◌}
use Rattle.std.proofs.lemmas.Result.{err_from_is_err_and}
use mathlib.Core.Path.{sym, ◌∙◌}
use Rattle.text_json.specs.Read.{escape}
use Rattle.text_chars.proofs.CharSteps.{chars_end, escape_short, escape_stop, escape_unit}
use Rattle.text_chars.proofs.Weights.{measure_byte}
use Rattle.text_chars.proofs.one_escape.Goals as goal

pub returns-then-s-next : goal.returns-then-s-next
returns-then-s-next c = (omega arith, omega arith, chars_end _ _ escape c.if-s-next.true)

pub returns-then-is_short : goal.returns-then-is_short
returns-then-is_short c =
    let read = escape_short c.args.s.now (c.args.at + 1) c.if-s-next.false (sym c.is_short.ensures ∙ c.if-is_short.true) in (
      omega arith,
      omega arith,
      omega arith,
      rw (c.is_control.ensures, c.byte_size.ensures.0, c.short_value-v.ensures, read) (measure_byte _ _),
    )

pub returns-then-b-ne117 : goal.returns-then-b-ne117
returns-then-b-ne117 c =
    (omega arith, omega arith, escape_stop _ _ c.if-s-next.false (sym c.is_short.ensures ∙ c.if-is_short.false) c.if-b-ne117.true)

pub returns-in_err-u : goal.returns-in_err-u
returns-in_err-u c =
    let p = err_from_is_err_and c.from_residual.result c.from_residual.ensures.1 in
    let read = c.in_err-u.ensures in
    rw (p.1, p.2) (omega arith, read.1, escape_unit c.args.s.now c.args.at c.if-s-next.false c.if-b-ne117.false ∙ read.2)

pub unit_escape-requires : goal.unit_escape-requires
unit_escape-requires c = let read = c.in_ok-u.ensures in (omega arith, read.1)

pub returns : goal.returns
returns c =
    let next : c.args.at + 2 + 4 ≡ c.args.at + 6 = omega arith in
    rw (escape_unit c.args.s.now c.args.at c.if-s-next.false c.if-b-ne117.false ∙ rw next at c.in_ok-u.ensures.2) c.unit_escape.ensures
