-- One alias more is in the index, or a reference is passed that is none. Assumes nothing.
use mathlib.Core.Path.{◌≡◌}
use native.Mathlib.Omega.{arith}
use lib.ListN.{length}
use Rattle.lookup_index.proofs.Indexing.{indexed_none, indexed_some, indexed_taken, indexed_passed}
use Rattle.lookup_index.proofs.index_refs.Goals as goal
use Rattle.lookup_index.proofs.index_refs.Goals.{then-mark, else-mark}

pub loop-e-init : goal.loop-e-init
loop-e-init c = indexed_none _ _ _ _

pub add-requires : goal.add-requires
add-requires c =
    let l = c.loop-e in (
      indexed_some _ _ _ _ l.e l.n l.order l.invariant,
      omega (arith, c.requires.2, l.invariant.few, l.invariant.size),
      c.requires.0 l.e c.loop-e-test.true c.if-mark.true,
    )

pub loop-e-preserved : goal.loop-e-preserved
loop-e-preserved c =
    let l = c.loop-e in
    elim c.if-mark.branch [
      | then-mark w ↦
          rw (w.order-is, w.n-is)
          (indexed_taken _ _ _ _ l.e l.n l.order l.invariant w.if-mark.true _ w.add.ensures.0 w.add.ensures.1)
      | else-mark w ↦ rw (w.order-is, w.n-is) (indexed_passed _ _ _ _ l.e l.n l.order l.invariant w.if-mark.false)
    ]

pub returns : goal.returns
returns c =
    let e : c.loop-e.e ≡ length c.args.next.now = omega arith in
    let p = rw e at c.loop-e.invariant in
    (p.few, p.size, p.index)
