use Rattle.std.proofs.Common.{arith, ◌<◌, length}
use Rattle.test_lines.specs.Words.{byte_at}
use Rattle.test_lines.proofs.Words.{byte_next}
use Rattle.test_lines.proofs.write_pairs.Goals as goal

pub loop-i-preserved : goal.loop-i-preserved
unfolding byte_at
loop-i-preserved c =
    let here : c.loop-i.i < length c.loop-i.out = omega arith in
    byte_next c.loop-i.out (byte_at c.args.hex.now) c.loop-i.i _ here (omega (arith, c.digit.ensures.0, c.digit-in-loop-i.ensures.0)) c.loop-i.invariant
