-- The pairs with the first o images are written.
use Rattle.policy_pairs.proofs.Reported.{row_pairs}
use Rattle.policy_pairs.proofs.Writing.{WritesPairs}
use Rattle.policy_pairs.proofs.write_row.Given as goal

abbrev pub invariant-loop-o : goal.invariant-loop-o
invariant-loop-o l = WritesPairs l.initial.out l.out l.n (row_pairs l.t l.g l.o)
