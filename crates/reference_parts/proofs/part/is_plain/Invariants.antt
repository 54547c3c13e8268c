-- The bytes from i on begin with the first k of the name.
use Prim.Native.Nat.{◌+◌, ◌≤◌}
use mathlib.Core.Path.{◌≡◌}
use mathlib.Core.List.{◌++◌}
use lib.ListN.{length, take, drop}
use Rattle.reference_parts.proofs.part.is_plain.Given as goal

abbrev pub invariant-loop-k : goal.invariant-loop-k
invariant-loop-k l = (l.fn.i + length l.fn.name ≤ length l.fn.s) × (drop l.fn.i l.fn.s ≡ take l.k l.fn.name ++ drop l.k (drop l.fn.i l.fn.s))
