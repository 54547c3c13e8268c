-- The word has the images of the numbers before this one.
use Rattle.policy_rows.proofs.Bits.{Owned}
use Rattle.policy_rows.proofs.owners.Given as goal

abbrev pub invariant-loop-e : goal.invariant-loop-e
invariant-loop-e l = Owned l.order l.e-index l.word
