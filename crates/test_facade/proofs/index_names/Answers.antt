use Rattle.std.proofs.Common.{◌≡◌, arith}
use Rattle.manifest_index.proofs.Indexing.{no_names, some_index}
use Rattle.test_facade.proofs.index_names.Goals as goal

pub loop-k-init : goal.loop-k-init
loop-k-init c = some_index (no_names _ _)

pub add-requires : goal.add-requires
add-requires c = (c.loop-k.invariant, omega arith, c.requires.0 c.loop-k.k c.loop-k-test.true)

pub loop-k-preserved : goal.loop-k-preserved
loop-k-preserved c = some_index (c.add.ensures.1 _ c.loop-k.invariant.index)

pub returns : goal.returns
returns c =
    let e : c.loop-k.k ≡ c.args.n = omega arith in
    let x = rw e at c.loop-k.invariant in
    (x, omega arith)
