-- The positions of the aliases of the images before this one are written.
use Rattle.std.proofs.Common.{◌≡◌, length}
use Rattle.store_names.specs.Placed.{PlacedUpTo}
use Rattle.store_names.proofs.place_all.Given as goal

abbrev pub invariant-loop-i : goal.invariant-loop-i
invariant-loop-i l = PlacedUpTo l.i l.b l.v l.at l.counts × (length l.own ≡ length l.initial.own)
