-- `store_shared::run_start` meets its contract: the name is compared with that before it.
use native.Mathlib.Omega.{arith}
use mathlib.Core.Path.{sym, ◌∙◌}
use borrow.Author.Rules.{rules}
use Rattle.manifest_index.proofs.Indexing.{index_names}
use Rattle.store_shared.proofs.Runs.{run_first, run_same, run_new}
use Rattle.store_shared.proofs.run_start.Statement.{statement}
use Rattle.store_shared.proofs.run_start.Tie as tie

returns-then-m-eq0 : tie.Need-returns-then-m-eq0
returns-then-m-eq0 c = run_first _ _ _ _ c.if-m-eq0.true

is_same-requires : tie.Need-is_same-requires
is_same-requires c κs =
    let p = c.requires in
    (index_names p.0.index _ (omega (arith, p.1)), index_names p.0.index _ p.1)

returns-then-is_same : tie.Need-returns-then-is_same
returns-then-is_same c =
    let e = c.before.before.before.before in
    let p = e.requires in
    run_same _ _ _ _ _ (omega (arith, e.if-m-eq0.false)) p.2 (sym c.is_same.ensures ∙ c.if-is_same.true)

returns : tie.Need-returns
returns c =
    let e = c.before.before.before.before in
    let p = e.requires in
    run_new _ _ _ p.0.index _ (omega (arith, e.if-m-eq0.false)) p.1 (sym c.is_same.ensures ∙ c.if-is_same.false)

pub run_start_spec : {M : Type 1} → statement M
run_start_spec =
    tie.close (tie.spec returns-then-m-eq0 (λ c. search rules) (λ c. search rules) (λ c. search rules) (λ c. search rules) (λ c. search rules)
    is_same-requires returns-then-is_same returns)
