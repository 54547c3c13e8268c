-- The pairs of the first g images are written.
use Rattle.policy_pairs.proofs.Reported.{table_pairs}
use Rattle.policy_pairs.proofs.Writing.{WritesPairs}
use Rattle.policy_pairs.proofs.write_pairs.Given as goal

abbrev pub invariant-loop-g : goal.invariant-loop-g
invariant-loop-g l = WritesPairs l.initial.out l.out l.n (table_pairs l.t l.g)
