-- One law for each answer, by the number and the body that stand at the position.
use Rattle.std.proofs.Common.{arith}
use Rattle.store_record.proofs.Reading.{no_length, too_long, with_body}
use Rattle.store_record.proofs.read.Goals as goal

pub returns-in_err-value : goal.returns-in_err-value
returns-in_err-value c = rw c.from_residual.ensures (no_length c.args.s.now c.args.i c.in_err-value.ensures)

pub overflow_sub-s : goal.overflow_sub-s
overflow_sub-s c = omega (arith, c.in_ok-value.ensures.later, c.in_ok-value.ensures.within)

pub returns-then-s-next : goal.returns-then-s-next
returns-then-s-next c = too_long c.args.s.now c.args.i _ _ c.in_ok-value.ensures (omega (arith, c.in_ok-value.ensures.later, c.if-s-next.true))

pub overflow_add-next : goal.overflow_add-next
overflow_add-next c = omega (arith, c.in_ok-value.ensures.small, c.in_ok-value.ensures.within, c.well_formed.0.1)

pub body-requires : goal.body-requires
body-requires c = omega (arith, c.in_ok-value.ensures.within, c.if-s-next.false)

pub returns : goal.returns
returns c = with_body c.args.s.now c.args.i _ _ c.in_ok-value.ensures c.if-s-next.false c.body.result c.body.ensures
