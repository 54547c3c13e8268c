use Rattle.std.proofs.Common.{sym, ◌∙◌, arith}
use Rattle.store_record.proofs.Walks.{any_image_end, any_here, any_next}
use Rattle.store_ids.proofs.is_held.Goals as goal

pub bounds-v-j : goal.bounds-v-j
bounds-v-j c = omega (arith, c.requires.few)

pub has_id-requires : goal.has_id-requires
has_id-requires c = c.requires.each c.loop-j.j c.loop-j-test.true

pub returns-then-has_id : goal.returns-then-has_id
returns-then-has_id c =
    sym (any_here c.args.s.now c.args.v (omega (arith, c.requires.few)) c.loop-j.j c.loop-j-test.true _
    (sym c.has_id.ensures ∙ c.if-has_id.true)) ∙ c.loop-j.invariant

pub loop-j-preserved : goal.loop-j-preserved
loop-j-preserved c =
    sym (any_next c.args.s.now c.args.v (omega (arith, c.requires.few)) c.loop-j.j c.loop-j-test.true _
    (sym c.has_id.ensures ∙ c.if-has_id.false)) ∙ c.loop-j.invariant

pub returns : goal.returns
returns c = sym (any_image_end c.args.s.now c.args.v (omega (arith, c.requires.few)) c.loop-j.j _ c.loop-j-test.false) ∙ c.loop-j.invariant
