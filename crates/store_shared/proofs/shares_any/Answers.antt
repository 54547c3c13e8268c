use Rattle.std.proofs.Common.{sym, ◌∙◌, arith}
use Rattle.manifest_index.proofs.Indexing.{index_number}
use Rattle.store_shared.proofs.Runs.{none_first, none_next, none_shared, some_shared}
use Rattle.store_shared.proofs.shares_any.Goals as goal

pub loop-m-init : goal.loop-m-init
loop-m-init c = none_first _ _ _ _

pub run_start-start-requires : goal.run_start-start-requires
run_start-start-requires c = (c.requires.0, c.loop-m-test.true, c.loop-m.invariant.last)

pub meets-requires : goal.meets-requires
meets-requires c =
    let p = c.requires in
    (λ i h. omega (arith, index_number p.0.index i h, p.1), p.2, omega (arith, c.run_start-start.ensures.within), c.loop-m-test.true)

pub returns-then-meets : goal.returns-then-meets
returns-then-meets c =
    sym (some_shared _ _ _ _ c.loop-m.start _ _ c.loop-m.invariant c.loop-m-test.true c.run_start-start.ensures (sym c.meets.ensures ∙ c.if-meets.true))

pub loop-m-preserved : goal.loop-m-preserved
loop-m-preserved c =
    none_next _ _ _ _ c.loop-m.start _ _ c.loop-m.invariant c.loop-m-test.true c.run_start-start.ensures (sym c.meets.ensures ∙ c.if-meets.false)

pub returns : goal.returns
returns c = sym (none_shared _ _ _ _ _ _ c.loop-m-test.false c.loop-m.invariant)
