-- The manifests of the records before this one are opened.
use Rattle.store_open.proofs.Opening.{OpenedTo}
use Rattle.store_open.proofs.open_all.Given as goal

abbrev pub invariant-loop-i : goal.invariant-loop-i
invariant-loop-i l = OpenedTo l.b l.v l.places l.i
