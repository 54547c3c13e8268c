use Rattle.std.proofs.Common.{sym, ◌∙◌, arith}
use Rattle.store_names.proofs.Opened.{opened_at}
use Rattle.store_record.proofs.Walks.{any_image_end, any_here, any_next}
use Rattle.store_conflict.proofs.any_clashes_in.Goals as goal

pub bounds-v-j : goal.bounds-v-j
bounds-v-j c = omega (arith, c.requires.2.fills.few)

pub bounds-places-j : goal.bounds-places-j
bounds-places-j c = omega (arith, c.requires.2.fills.few)

pub clashes_in-requires : goal.clashes_in-requires
clashes_in-requires c =
    let j = c.loop-j.j in
    let o = c.requires.2 in
    (c.requires.0, c.requires.1, o.fills.each j c.loop-j-test.true, opened_at _ _ _ o j c.loop-j-test.true _)

pub returns-then-clashes_in : goal.returns-then-clashes_in
returns-then-clashes_in c =
    sym (any_here c.args.b.now c.args.v (omega (arith, c.requires.2.fills.few)) c.loop-j.j c.loop-j-test.true _
    (sym c.clashes_in.ensures ∙ c.if-clashes_in.true)) ∙ c.loop-j.invariant

pub loop-j-preserved : goal.loop-j-preserved
loop-j-preserved c =
    sym (any_next c.args.b.now c.args.v (omega (arith, c.requires.2.fills.few)) c.loop-j.j c.loop-j-test.true _
    (sym c.clashes_in.ensures ∙ c.if-clashes_in.false)) ∙ c.loop-j.invariant

pub returns : goal.returns
returns c =
    sym (any_image_end c.args.b.now c.args.v (omega (arith, c.requires.2.fills.few)) c.loop-j.j _ c.loop-j-test.false) ∙ c.loop-j.invariant
