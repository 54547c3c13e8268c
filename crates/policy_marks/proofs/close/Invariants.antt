-- The rows are closed for the images before this one.
use Rattle.std.proofs.Common.{◌≡◌}
use Rattle.policy_marks.specs.Marks.{closed_below}
use Rattle.policy_marks.specs.Words.{rows_of}
use Rattle.policy_marks.proofs.close.Given as goal

abbrev pub invariant-loop-k : goal.invariant-loop-k
invariant-loop-k l = rows_of l.count l.closed ≡ closed_below l.k (rows_of l.count l.initial.closed)
