use Rattle.std.proofs.Common.{arith}
use Rattle.store_varint.proofs.Reading.{past_end, one_byte, large_byte, none_here, rest_missing, zero_rest, large_rest, with_rest}
use Rattle.store_varint.proofs.+read.Goals as goal

pub returns-then-s-i : goal.returns-then-s-i
returns-then-s-i t c = past_end _ _ _ c.if-s-i.true

pub returns-then-most-b : goal.returns-then-most-b
returns-then-most-b t c = large_byte c.args.s.now c.args.i c.args.most (omega arith) c.if-b-lt128.true c.if-most-b.true

pub returns-then-b-lt128 : goal.returns-then-b-lt128
returns-then-b-lt128 t c = one_byte c.args.s.now c.args.i c.args.most (omega arith) c.if-b-lt128.true c.if-most-b.false

pub returns-then-most-lt128 : goal.returns-then-most-lt128
returns-then-most-lt128 t c = none_here c.args.s.now c.args.i c.args.most (omega arith) c.if-b-lt128.false (λ m r e p. omega arith)

pub returns-then-value-eq0 : goal.returns-then-value-eq0
returns-then-value-eq0 t c =
    zero_rest c.args.s.now c.args.i c.args.most (omega arith) c.if-b-lt128.false _ _ c.in_ok-value.ensures (omega arith)

pub returns-then-most-low : goal.returns-then-most-low
returns-then-most-low t c =
    large_rest c.args.s.now c.args.i c.args.most (omega arith) c.if-b-lt128.false _ _ c.in_ok-value.ensures (omega arith)

pub returns-in_err-value : goal.returns-in_err-value
returns-in_err-value t c =
    rw c.from_residual.ensures (rest_missing c.args.s.now c.args.i c.args.most (omega arith) c.if-b-lt128.false c.in_err-value.ensures)

pub returns : goal.returns
returns t c =
    with_rest c.args.s.now c.args.i c.args.most (omega arith) c.if-b-lt128.false _ _ c.in_ok-value.ensures (omega arith) (omega (arith, c.type_inv.s c.args.i))
