-- The chosen references before this one are linked.
use mathlib.Core.List.{List}
use lib.ListN.{take}
use Rattle.reference.specs.References.{Layer}
use Rattle.manifest_objects.specs.Objects.{AllStand}
use Rattle.lookup_table.specs.Linking.{Relinked}
use Rattle.lookup_table.proofs.link.Given as goal

abbrev pub invariant-loop-i : goal.invariant-loop-i
invariant-loop-i l =
    (refs : List Layer) → AllStand l.b l.keys refs → Relinked l.a l.signer refs l.number (take l.i l.chosen) l.initial.next l.next
