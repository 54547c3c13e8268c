-- The index has the aliases of the images before this one.
use Rattle.std.proofs.Common.{length}
use Rattle.store_names.proofs.Numbering.{IndexedTo}
use Rattle.store_names.proofs.index_all.Given as goal

abbrev pub invariant-loop-i : goal.invariant-loop-i
invariant-loop-i l = IndexedTo l.b l.at l.fn.counts (length l.initial.order) l.i l.n l.order
