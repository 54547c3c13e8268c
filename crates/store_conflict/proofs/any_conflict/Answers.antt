use Rattle.std.proofs.Common.{refl, sym, ◌∙◌, arith}
use Rattle.store_keys.specs.Signed.{layers_clash}
use Rattle.store_record.proofs.Walks.{pair_image_end, pair_here, pair_next}
use Rattle.store_conflict.proofs.Lent.{space_kept}
use Rattle.store_conflict.proofs.any_conflict.Goals as goal

pub loop-i-init : goal.loop-i-init
loop-i-init c = refl

pub conflicts_later-requires : goal.conflicts_later-requires
conflicts_later-requires c =
    let n = c.loop-i.auto in
    (c.requires.0, c.loop-i-test.true, space_kept c.requires.1 _ _ _ _ n.sorted n.spare n.heads n.keys)

pub returns-then-conflicts_later : goal.returns-then-conflicts_later
returns-then-conflicts_later c =
    sym (pair_here c.args.b.now c.args.v (omega (arith, c.requires.0.fills.few)) c.loop-i.i c.loop-i-test.true layers_clash
    (sym c.conflicts_later.ensures ∙ c.if-conflicts_later.true)) ∙ c.loop-i.invariant

pub loop-i-preserved : goal.loop-i-preserved
loop-i-preserved c =
    sym (pair_next c.args.b.now c.args.v (omega (arith, c.requires.0.fills.few)) c.loop-i.i c.loop-i-test.true layers_clash
    (sym c.conflicts_later.ensures ∙ c.if-conflicts_later.false)) ∙ c.loop-i.invariant

pub returns : goal.returns
returns c =
    sym (pair_image_end c.args.b.now c.args.v (omega (arith, c.requires.0.fills.few)) c.loop-i.i layers_clash c.loop-i-test.false) ∙ c.loop-i.invariant
