-- `policy_judge::judge_table` meets its contract.
use Prim.Native.Nat.{◌*◌}
use mathlib.Core.Path.{◌≡◌, refl, ap, ◌∙◌}
use mathlib.Core.List.{List, ◌++◌}
use native.Mathlib.Omega.{arith}
use lib.ListN.{length, drop}
use Rattle.policy_marks.specs.Pairs.{Pair, pairs_in, pairs_of, report_of}
use Rattle.policy_marks.specs.Words.{guards_in, rows_in}
use Rattle.policy_judge.proofs.Judging.{with_rows, pairs_closed, table_few, refused, told}
use borrow.Author.Rules.{rules}
use Rattle.policy_judge.proofs.judge_table.Statement.{statement}
use Rattle.policy_judge.proofs.judge_table.Tie as tie

-- the pairs of the table that is closed are those of the table
same_pairs : (c : tie.After-close) → let t = c.args.t in
    pairs_in (guards_in (with_rows t c.close.result)) (rows_in (with_rows t c.close.result)) ≡ pairs_of (guards_in t) (rows_in t)
same_pairs c = pairs_closed c.args.t c.close.result c.close.ensures

counted : (c : tie.After-count_pairs-pairs) → let t = c.args.t in c.count_pairs-pairs.result ≡ length (pairs_of (guards_in t) (rows_in t))
counted c = c.count_pairs-pairs.ensures ∙ ap length (same_pairs c.before)

overflow_mul-pairs : tie.Need-overflow_mul-pairs
overflow_mul-pairs c =
    let a = c.before.before.before.before in
    omega (arith, c.count_pairs-pairs.ensures, table_few (with_rows a.args.t c.close.result) a.requires)

returns-then-out-pairs : tie.Need-returns-then-out-pairs
returns-then-out-pairs c =
    let a = c.before.before.before.before.before in
    refused (pairs_of (guards_in a.args.t) (rows_in a.args.t)) a.args.out.now (omega (arith, counted c.before, c.if-out-pairs.true))

returns : tie.Need-returns
returns c =
    let w = c.before.before in
    let e = w.before.before in
    let k = e.before in
    let a = k.before.before.before.before in
    told (pairs_of (guards_in a.args.t) (rows_in a.args.t)) a.args.out.now _ _ (omega (arith, counted k, e.if-out-pairs.false)) refl (counted k)
    (w.write_pairs.ensures ∙ ap (λ (ps : List Pair). report_of ps ++ drop (2 * length ps) a.args.out.now) (same_pairs k.before))

pub judge_table_spec : {M : Type 1} → statement M
judge_table_spec =
    tie.close (tie.spec (λ c κs. search rules) (λ c κs. search rules) overflow_mul-pairs returns-then-out-pairs (λ c κs. search rules) (λ c. search rules) returns)
