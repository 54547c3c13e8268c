use Rattle.std.proofs.Common.{refl, ◌∙◌, arith}
use Rattle.policy_marks.specs.Marks.{closed_below}
use Rattle.policy_marks.specs.Words.{rows_of}
use Rattle.policy_marks.proofs.Closing.{below_next, all_closed}
use Rattle.policy_marks.proofs.Words.{rows_length}
use Rattle.policy_marks.proofs.close.Goals as goal

pub loop-k-init : goal.loop-k-init
unfolding closed_below
loop-k-init c = refl

pub loop-k-preserved : goal.loop-k-preserved
loop-k-preserved c = c.close_at-next.ensures ∙ below_next c.loop-k.k (rows_of c.args.count c.args.rows) c.loop-k.invariant

pub returns : goal.returns
returns c =
    c.loop-k.invariant ∙ all_closed c.loop-k.k (rows_of c.args.count c.args.rows) (omega (arith, rows_length c.args.count c.args.rows (omega arith)))
