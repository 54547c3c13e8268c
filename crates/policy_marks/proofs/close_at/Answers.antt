use Rattle.std.proofs.Common.{◌≡◌, sym, ap, ◌∙◌, arith, length, get_or, set, ℕ, ◌++◌, ◌≤◌, take, drop}
use Rattle.std.proofs.lemmas.List.{get_or_default, length-take-le}
use Rattle.std.proofs.lemmas.List.Edits.{map_over_more}
use Rattle.policy_marks.specs.Words.{rows_of}
use Rattle.policy_marks.proofs.Joining.{passed, joined, joined_taken, joined_left, passed_first, rows_joined}
use Rattle.policy_marks.proofs.close_at.Goals as goal
use Rattle.policy_marks.proofs.close_at.Goals.{then-has, else-has}

pub loop-row-preserved : goal.loop-row-preserved
loop-row-preserved c =
    let k = c.args.k in
    let next = get_or c.args.rows k 0 in
    let rows = c.loop-row.row-items in
    let i = c.loop-row.row-index in
    let row = get_or rows i 0 in
    let passes = map_over_more (joined k next) _ rows i row (omega arith) c.loop-row.invariant (get_or_default rows i 0 row (omega arith)) in
    elim c.if-has.branch [
      | then-has w ↦ w.row-items-is ∙ ap (set rows i) (sym (joined_taken k next row (sym c.has.ensures ∙ w.if-has.true))) ∙ passes
      | else-has w ↦ w.row-items-is ∙ ap (set rows i) (sym (joined_left k next row (sym c.has.ensures ∙ w.if-has.false))) ∙ passes
    ]

pub returns : goal.returns
returns c =
    let n = c.args.count in
    let rows = c.args.rows in
    let fits : n ≤ length rows = omega arith in
    let e : c.loop-row.row-index ≡ n = omega (arith, length-take-le n rows fits) in
    let f = joined c.args.k (get_or rows c.args.k 0) in
    ap (λ r. rows_of n (r ++ drop n rows)) (c.loop-row.invariant ∙ ap (λ (i : ℕ). passed f i (take n rows)) e)
    ∙ ap (rows_of n) (passed_first f n rows fits) ∙ rows_joined n c.args.k rows (omega arith) fits
