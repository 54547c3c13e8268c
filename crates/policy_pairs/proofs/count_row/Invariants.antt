-- The pairs with the first o images are counted.
use Rattle.std.proofs.Common.{◌≡◌, length}
use Rattle.policy_pairs.proofs.Reported.{row_pairs}
use Rattle.policy_pairs.proofs.count_row.Given as goal

abbrev pub invariant-loop-o : goal.invariant-loop-o
invariant-loop-o l = l.n ≡ length (row_pairs l.t l.g l.o)
