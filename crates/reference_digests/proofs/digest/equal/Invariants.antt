-- What is kept so far and the answer for the bytes from i on are the answer for all.
use mathlib.Core.Path.{◌≡◌}
use mathlib.Core.Bool.{◌&&◌}
use lib.ListN.{length, drop}
use Rattle.laws.specs.Order.{same}
use Rattle.reference_digests.proofs.digest.equal.Given as goal

abbrev pub invariant-loop-i : goal.invariant-loop-i
invariant-loop-i l = (length l.fn.a ≡ length l.fn.b) × ((l.all && same (drop l.i l.fn.a) (drop l.i l.fn.b)) ≡ same l.fn.a l.fn.b)
