-- `reference_parts::part::read_blocks` meets its contract. The loop's invariant is the contract at k. The measure is how much of the text is left.
-- Assumes nothing.
use Prim.Native.Nat.{◌-◌}
use mathlib.Core.Path.{sym, ◌∙◌}
use native.Mathlib.Omega.{arith}
use lib.ListN.{length}
use Rattle.text_strings.proofs.Cursors.{inside_within}
use Rattle.reference_parts.specs.Readings.{StartAt}
use Rattle.reference_parts.proofs.Blocks.{nothing_yet, within, block_more}
use Rattle.reference_parts.proofs.part.read_blocks.Statement.{statement}
use Rattle.reference_parts.proofs.part.read_blocks.Tie as tie

abbrev invariant-loop : tie.invariant-loop-hex
invariant-loop s i k₀ hex₀ k hex = StartAt s i (record { next = k; hex = hex })

abbrev decreases-loop : tie.decreases-loop-hex
decreases-loop s i k₀ hex₀ k hex = length s - k

loop-hex-init : tie.Need-loop-hex-init invariant-loop decreases-loop
loop-hex-init c = nothing_yet _ _ c.requires

undivided-requires : tie.Need-undivided-requires invariant-loop decreases-loop
undivided-requires c κs = omega (arith, inside_within _ _ c.loop-hex.invariant.inside)

all_hex-hex-requires : tie.Need-all_hex-hex-requires invariant-loop decreases-loop
all_hex-hex-requires c κs =
    let l = c.loop-hex in
    let a = c.args in
    let i = inside_within a.s.now l.k l.invariant.inside in
    within 16 a.s.now a.i l.k l.hex l.invariant (sym c.undivided.ensures ∙ c.loop-hex-test.true) (omega arith)

overflow_add-k : tie.Need-overflow_add-k invariant-loop decreases-loop
overflow_add-k c =
    let l = c.loop-hex in
    let a = c.args in
    let i = inside_within a.s.now l.k l.invariant.inside in
    let w = within 16 a.s.now a.i l.k l.hex l.invariant (sym c.undivided.ensures ∙ c.loop-hex-test.true) (omega arith) in
    omega (arith, c.well_formed)

loop-hex-smaller : tie.Need-loop-hex-smaller invariant-loop decreases-loop
loop-hex-smaller c = omega (arith, inside_within _ _ c.loop-hex.invariant.inside)

loop-hex-preserved : tie.Need-loop-hex-preserved invariant-loop decreases-loop
loop-hex-preserved c =
    let l = c.loop-hex in
    block_more 16 _ _ l.k l.hex l.invariant (sym c.undivided.ensures ∙ c.loop-hex-test.true) _ c.all_hex-hex.ensures

returns : tie.Need-returns invariant-loop decreases-loop
returns c = c.loop-hex.invariant

pub read_blocks_spec : {M : Type 1} → statement M
read_blocks_spec =
    tie.close (tie.spec invariant-loop decreases-loop loop-hex-init undivided-requires all_hex-hex-requires overflow_add-k loop-hex-smaller loop-hex-preserved returns)
