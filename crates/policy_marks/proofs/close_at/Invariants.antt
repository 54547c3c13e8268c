-- The rows before this one are passed.
use Rattle.std.proofs.Common.{◌≡◌}
use Rattle.policy_marks.proofs.Joining.{passed, joined}
use Rattle.policy_marks.proofs.close_at.Given as goal

abbrev pub invariant-loop-row : goal.invariant-loop-row
invariant-loop-row l = l.row-items ≡ passed (joined l.k l.next) l.row-index l.initial.row-items
