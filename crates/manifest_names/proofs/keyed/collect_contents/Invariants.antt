use Prim.Native.Nat.{◌-◌}
use lib.ListN.{length}
use Rattle.manifest_names.proofs.Keying.{WithKeys}
use Rattle.manifest_names.proofs.keyed.collect_contents.Given as goal

-- the aliases of the members before the cursor were collected with their keys, and there is space for 64 of each other member
abbrev pub invariant-loop-key : goal.invariant-loop-key
invariant-loop-key l = WithKeys l.s l.at l.depth l.initial.names l.initial.keys l.names l.keys l.left l.n

abbrev pub decreases-loop-key : goal.decreases-loop-key
decreases-loop-key l = length l.s - l.left.at
