-- The aliases among the first e references are in the index.
use Rattle.lookup_index.proofs.Indexing.{IndexedTo}
use Rattle.lookup_index.proofs.index_refs.Given as goal

abbrev pub invariant-loop-e : goal.invariant-loop-e
invariant-loop-e l = IndexedTo l.b l.at l.next l.e l.n l.initial.order l.order
