use Prim.Native.Nat.{◌-◌}
use lib.ListN.{length}
use Rattle.text_strings.specs.InString.{content_from}
use Rattle.manifest_names.proofs.Objects.{Passing}
use Rattle.manifest_names.proofs.object.object_in.Given as goal

-- the name has in the members that are left the key that it has in the group
abbrev pub invariant-loop-key : goal.invariant-loop-key
invariant-loop-key l = Passing l.s l.at l.depth (content_from l.t l.q) l.left l.index

abbrev pub decreases-loop-key : goal.decreases-loop-key
decreases-loop-key l = length l.s - l.left.at
