-- The aliases of the images before this one are linked.
use Rattle.lookup_table.proofs.Joining.{LinkedUpTo}
use Rattle.lookup_table.proofs.link_all.Given as goal

abbrev pub invariant-loop-j : goal.invariant-loop-j
invariant-loop-j l = LinkedUpTo l.b l.v l.keys l.at l.order l.initial.next l.j l.first l.next
