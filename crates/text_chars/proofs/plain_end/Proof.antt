-- `text_chars::plain_end` meets its contract. The loop's invariant: the run from `i` on ends where the one from `at` on does. The
-- measure is how much is left.
-- Assumes nothing.
use Prim.Native.Nat.{◌+◌, ◌-◌, ◌≤◌}
use mathlib.Core.Path.{◌≡◌, refl, sym, ◌∙◌}
use native.Mathlib.Omega.{arith}
use lib.ListN.{length, drop}
use Rattle.text_chars.specs.Measure.{plain_length}
use Rattle.text_chars.proofs.Plain.{goes_far}
use Rattle.text_chars.proofs.plain_end.Statement.{statement}
use Rattle.text_chars.proofs.plain_end.Tie as tie

abbrev invariant-loop : tie.invariant-loop-i
invariant-loop s at i₀ i = (i ≤ length s) × (at + plain_length (drop at s) ≡ i + plain_length (drop i s))

abbrev decreases-loop : tie.decreases-loop-i
decreases-loop s at i₀ i = length s - i

loop-i-init : tie.Need-loop-i-init invariant-loop decreases-loop
loop-i-init c = (c.requires, refl)

plain_left-requires : tie.Need-plain_left-requires invariant-loop decreases-loop
plain_left-requires c κs = c.loop-i.invariant.0

-- the place behind sixteen bytes more
behind : (c : tie.In-loop-i invariant-loop decreases-loop) → let i = c.loop-i.i in let s = c.args.s.now in
    (i + 16 ≤ length s) × (i + plain_length (drop i s) ≡ i + 16 + plain_length (drop (i + 16) s))
behind c = goes_far _ _ 16 c.loop-i.invariant.0 (sym c.plain_left.ensures ∙ c.loop-i-test.true)

overflow_add-i : tie.Need-overflow_add-i invariant-loop decreases-loop
overflow_add-i c = omega (arith, (behind c).0)

loop-i-smaller : tie.Need-loop-i-smaller invariant-loop decreases-loop
loop-i-smaller c = omega (arith, (behind c).0)

loop-i-preserved : tie.Need-loop-i-preserved invariant-loop decreases-loop
loop-i-preserved c = let b = behind c in (b.0, c.loop-i.invariant.1 ∙ b.1)

plain_rest-requires : tie.Need-plain_rest-requires invariant-loop decreases-loop
plain_rest-requires c κs = c.loop-i.invariant.0

returns : tie.Need-returns invariant-loop decreases-loop
returns c = c.plain_rest.ensures ∙ sym c.loop-i.invariant.1

pub plain_end_spec : {M : Type 1} → statement M
plain_end_spec =
    tie.close (tie.spec invariant-loop decreases-loop loop-i-init plain_left-requires overflow_add-i loop-i-smaller loop-i-preserved plain_rest-requires returns)
