use Rattle.std.proofs.Common.{◌≡◌, refl, arith}
use Rattle.store_names.proofs.Numbering.{adding_none, adding_some, adding_next}
use Rattle.store_names.proofs.index_image.Goals as goal

pub loop-k-init : goal.loop-k-init
loop-k-init c = adding_none _ _ _ _ _

pub add-requires : goal.add-requires
add-requires c =
    let l = c.loop-k in
    let p = c.requires in (
      adding_some _ _ _ _ _ l.k l.order l.invariant p.0,
      omega (arith, p.3, c.loop-k-test.true, l.invariant.length_kept),
      p.4 l.k (omega (arith, c.loop-k-test.true)),
    )

pub loop-k-preserved : goal.loop-k-preserved
loop-k-preserved c =
    let l = c.loop-k in
    adding_next _ _ _ _ _ l.k l.order l.invariant _ c.add.ensures.0 c.add.ensures.1

pub returns : goal.returns
returns c =
    let l = c.loop-k in
    let e : l.k ≡ c.args.count = omega arith in
    let p = rw e at l.invariant in
    (refl, p.length_kept, p.index)
