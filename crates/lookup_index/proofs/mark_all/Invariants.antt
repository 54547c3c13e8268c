-- The first e references are marked.
use mathlib.Core.List.{List}
use Rattle.reference.specs.References.{Layer}
use Rattle.manifest_objects.specs.Objects.{AllStand}
use Rattle.lookup_index.proofs.Marking.{MarkedTo}
use Rattle.lookup_index.proofs.mark_all.Given as goal

abbrev pub invariant-loop-e : goal.invariant-loop-e
invariant-loop-e l = (refs : List Layer) → AllStand l.b l.keys refs → MarkedTo l.b refs l.e l.at l.next
