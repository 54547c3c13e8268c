-- The layer is in the list exactly if it is in the layers from `at` on. The measure is how many bytes are left.
use Prim.Native.Nat.{◌-◌}
use lib.ListN.{length}
use Rattle.lookup_layers.proofs.Walking.{Left}
use Rattle.lookup_layers.proofs.has.Given as goal

abbrev pub invariant-loop-at : goal.invariant-loop-at
invariant-loop-at l = Left l.s (record { algorithm = l.a; bytes = l.digest }) l.at

abbrev pub decreases-loop-at : goal.decreases-loop-at
decreases-loop-at l = length l.s - l.at
