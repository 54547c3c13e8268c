-- The pairs of the images before this one are counted.
use Rattle.std.proofs.Common.{◌≡◌, length}
use Rattle.policy_pairs.proofs.Reported.{table_pairs}
use Rattle.policy_pairs.proofs.count_pairs.Given as goal

abbrev pub invariant-loop-g : goal.invariant-loop-g
invariant-loop-g l = l.n ≡ length (table_pairs l.t l.g)
