-- The digits after those of k bytes are compared with the bytes from k on, and the answer is that of the start.
use Prim.Native.Nat.{◌+◌, ◌-◌, ◌*◌}
use mathlib.Core.Path.{◌≡◌}
use lib.ListN.{length, drop}
use Rattle.laws.specs.Order.{same}
use Rattle.text_strings.specs.InString.{Inside, content_from}
use Rattle.reference_parts.specs.Parts.{first_part}
use Rattle.reference_digests.specs.Digests.{digest_of}
use Rattle.reference_digests.specs.Readings.{Digits}
use Rattle.reference_digests.proofs.digest.is.Given as goal

abbrev pub invariant-loop-k : goal.invariant-loop-k
invariant-loop-k l =
    Inside l.s (l.i + 2 * l.k) × Digits (content_from l.s (l.i + 2 * l.k)) (length l.bytes - l.k)
    × (same (digest_of (first_part (content_from l.s (l.i + 2 * l.k)))) (drop l.k l.bytes) ≡ same (digest_of (first_part (content_from l.s l.i))) l.bytes)
