use Rattle.std.proofs.Common.{arith, ◌<◌}
use Rattle.std.proofs.lemmas.List.{get_or-take, length-take}
use Rattle.manifest_index.proofs.Indexing.{some_index}
use Rattle.store_names.proofs.Numbering.{indexed_none, indexed_next}
use Rattle.store_names.proofs.index_all.Goals as goal

pub loop-i-init : goal.loop-i-init
loop-i-init c = indexed_none _ _ _ _

pub index_image-n-requires : goal.index_image-n-requires
index_image-n-requires c =
    let i = c.loop-i.i in
    let x = c.loop-i.invariant in
    let h : i < c.args.images = omega (arith, length-take c.args.images c.args.counts.now) in
    let few = c.requires.0.few i h in
    rw (get_or-take c.args.images c.args.counts.now i 0 h) (
      some_index x.index,
      omega arith,
      few,
      omega (arith, few, x.few, x.space, c.requires.3),
      c.requires.0.each i h,
    )

pub loop-i-preserved : goal.loop-i-preserved
loop-i-preserved c =
    let l = c.loop-i in
    let h : l.i < c.args.images = omega (arith, length-take c.args.images c.args.counts.now) in
    let e = rw (get_or-take c.args.images c.args.counts.now l.i 0 h) at c.index_image-n.ensures in
    indexed_next _ _ _ _ l.i l.n l.order l.invariant (c.requires.0.few l.i h) _ _ e.0 e.1 e.2
