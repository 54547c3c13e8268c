-- The layers before the reference e were found.
use Prim.Native.Nat.{◌-◌, ◌*◌, ◌≤◌}
use mathlib.Core.List.{List}
use Rattle.reference.specs.References.{Layer}
use Rattle.store_record.specs.Image.{Image}
use Rattle.lookup_layers.specs.Layers.{LayerDigest}
use Rattle.lookup_outcome.specs.Resolving.{Resolving}
use Rattle.lookup_outcome.proofs.Checking.{CheckedTo}
use Rattle.lookup_outcome.proofs.check_all.Given as goal

abbrev pub invariant-loop-e : goal.invariant-loop-e
invariant-loop-e l =
    (l.length ≤ 49 * (l.e - l.objects))
    × ((room : List Image) (refs : List Layer) (ds : List LayerDigest) → Resolving l.b l.keys l.next l.present l.objects room refs ds
    → CheckedTo ds room refs l.objects l.e l.length l.numbers)
