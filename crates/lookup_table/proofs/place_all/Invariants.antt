-- The objects of the images before this one are placed.
use Rattle.lookup_table.proofs.Placing.{PlacedTo}
use Rattle.lookup_table.proofs.place_all.Given as goal

abbrev pub invariant-loop-i : goal.invariant-loop-i
invariant-loop-i l = PlacedTo l.b l.v l.i l.n l.initial.keys l.keys l.counts
