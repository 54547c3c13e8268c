-- k bytes are written, and two digits of each are passed.
use Prim.Native.Nat.{ℕ, ◌≤◌}
use mathlib.Core.List.{List}
use lib.ListN.{length}
use Rattle.text_strings.specs.InString.{content_from}
use Rattle.text_strings.specs.Cursor.{Left}
use Rattle.reference_parts.specs.Parts.{first_part}
use Rattle.reference_digests.proofs.Hex.{Writing}
use Rattle.reference_digests.proofs.digest.write.Given as goal

abbrev pub invariant-loop-k : goal.invariant-loop-k
invariant-loop-k l = (l.n ≤ length l.initial.out) × ((r : List ℕ) × Left l.s l.c r × Writing (first_part (content_from l.s l.i)) r l.n l.k l.initial.out l.out)
