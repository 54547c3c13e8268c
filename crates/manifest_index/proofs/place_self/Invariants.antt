-- The positions of the first i aliases are written.
use Rattle.manifest_index.proofs.Placing.{PlacedTo}
use Rattle.manifest_index.proofs.place_self.Given as goal

abbrev pub invariant-loop-i : goal.invariant-loop-i
invariant-loop-i l = PlacedTo l.start l.own l.initial.at l.at l.i
