-- k bytes are written, and two digits of each are passed.
use Prim.Native.Nat.{◌+◌, ◌*◌, ◌≤◌}
use lib.ListN.{length, drop}
use Rattle.reference_parts.specs.Parts.{first_part}
use Rattle.reference_digests.proofs.Hex.{Writing}
use Rattle.reference_digests.proofs.digest.write_plain.Given as goal

abbrev pub invariant-loop-k : goal.invariant-loop-k
invariant-loop-k l =
    (l.n ≤ length l.initial.out) × (l.i + 2 * l.k ≤ length l.s)
    × Writing (first_part (drop l.i l.s)) (drop (l.i + 2 * l.k) l.s) l.n l.k l.initial.out l.out
