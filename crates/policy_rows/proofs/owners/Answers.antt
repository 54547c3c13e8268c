use Rattle.std.proofs.Common.{arith}
use Rattle.policy_rows.proofs.Bits.{owned_none, owned_next, owned_all}
use Rattle.policy_rows.proofs.owners.Goals as goal

pub loop-e-init : goal.loop-e-init
loop-e-init c = owned_none _

pub overflow_shl-word : goal.overflow_shl-word
overflow_shl-word c = omega (arith, c.requires _ c.loop-e-test.true)

pub loop-e-preserved : goal.loop-e-preserved
loop-e-preserved c = owned_next _ c.loop-e.e-index c.loop-e.word c.loop-e-test.true (c.requires _ c.loop-e-test.true) c.loop-e.invariant

pub returns : goal.returns
returns c = owned_all _ _ _ c.loop-e-test.false c.loop-e.invariant
