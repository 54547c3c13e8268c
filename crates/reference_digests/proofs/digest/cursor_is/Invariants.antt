-- The digits left before the cursor are compared with the bytes from k on, and the answer is that of the start.
use Prim.Native.Nat.{ℕ, ◌-◌}
use mathlib.Core.Path.{◌≡◌}
use mathlib.Core.List.{List}
use lib.ListN.{length, drop}
use Rattle.laws.specs.Order.{same}
use Rattle.text_strings.specs.Cursor.{Left}
use Rattle.reference_parts.specs.Parts.{first_part}
use Rattle.reference_digests.specs.Digests.{digest_of}
use Rattle.reference_digests.specs.Readings.{Digits}
use Rattle.reference_digests.proofs.digest.cursor_is.Given as goal

abbrev pub invariant-loop-k : goal.invariant-loop-k
invariant-loop-k l =
    (r : List ℕ) × Left l.s l.c r × Digits r (length l.bytes - l.k)
    × ((d : List ℕ) → Left l.s l.fn.from d → same (digest_of (first_part r)) (drop l.k l.bytes) ≡ same (digest_of (first_part d)) (drop l.at l.bytes))
