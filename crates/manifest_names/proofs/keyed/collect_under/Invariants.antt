use Prim.Native.Nat.{◌-◌}
use lib.ListN.{length}
use Rattle.manifest_names.proofs.Keying.{UnderKey}
use Rattle.manifest_names.proofs.keyed.collect_under.Given as goal

-- the strings before the cursor were added with their key
abbrev pub invariant-loop-p : goal.invariant-loop-p
invariant-loop-p l = UnderKey l.s l.at l.depth l.key l.initial.names l.n l.initial.keys l.names l.keys l.left l.i

abbrev pub decreases-loop-p : goal.decreases-loop-p
decreases-loop-p l = length l.s - l.left.at
