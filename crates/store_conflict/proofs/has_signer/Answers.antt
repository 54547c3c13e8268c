use Rattle.std.proofs.Common.{sym, ◌∙◌, arith}
use Rattle.store_conflict.proofs.Walking.{signed_is}
use Rattle.store_record.proofs.Walks.{any_image_end, any_here, any_next}
use Rattle.store_conflict.proofs.has_signer.Goals as goal

pub bounds-v-j : goal.bounds-v-j
bounds-v-j c = omega (arith, c.requires.few)

pub is_signed_by-requires : goal.is_signed_by-requires
is_signed_by-requires c = c.requires.each c.loop-j.j c.loop-j-test.true

pub returns-then-is_signed_by : goal.returns-then-is_signed_by
returns-then-is_signed_by c =
    sym (any_here c.args.b.now c.args.v (omega (arith, c.requires.few)) c.loop-j.j c.loop-j-test.true _
    (sym (c.is_signed_by.ensures ∙ signed_is _ _ _ _) ∙ c.if-is_signed_by.true)) ∙ c.loop-j.invariant

pub loop-j-preserved : goal.loop-j-preserved
loop-j-preserved c =
    sym (any_next c.args.b.now c.args.v (omega (arith, c.requires.few)) c.loop-j.j c.loop-j-test.true _
    (sym (c.is_signed_by.ensures ∙ signed_is _ _ _ _) ∙ c.if-is_signed_by.false)) ∙ c.loop-j.invariant

pub returns : goal.returns
returns c = sym (any_image_end c.args.b.now c.args.v (omega (arith, c.requires.few)) c.loop-j.j _ c.loop-j-test.false) ∙ c.loop-j.invariant
