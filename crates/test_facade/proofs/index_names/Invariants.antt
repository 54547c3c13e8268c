-- The index has the names before this one.
use Rattle.std.proofs.Common.{take}
use Rattle.manifest_index.specs.Index.{SomeNameIndex}
use Rattle.test_facade.proofs.index_names.Given as goal

abbrev pub invariant-loop-k : goal.invariant-loop-k
invariant-loop-k l = SomeNameIndex l.t l.at (take l.k l.order)
