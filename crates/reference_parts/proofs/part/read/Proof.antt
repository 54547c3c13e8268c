-- `reference_parts::part::read` meets its contract. The loop's invariant: k stands in the string, and the content from i up to there is
-- counted, with no `/` in it. The measure is how much of the text is left. Assumes nothing.
use Prim.Native.Nat.{◌-◌}
use native.Mathlib.Omega.{arith}
use lib.ListN.{length}
use Rattle.text_strings.specs.InString.{Inside, content_from}
use Rattle.text_strings.proofs.Cursors.{inside_within}
use Rattle.reference_parts.proofs.Counting.{DigitsCounted, at_mark, at_divider, over_char, char_fits}
use Rattle.reference_parts.proofs.Blocks.{begun}
use Rattle.reference_parts.proofs.part.read.Statement.{statement}
use Rattle.reference_parts.proofs.part.read.Tie as tie

abbrev invariant-loop : tie.invariant-loop-i
invariant-loop s i k₀ n₀ hex₀ k n hex = Inside s k × DigitsCounted (content_from s i) (content_from s k) n hex

abbrev decreases-loop : tie.decreases-loop-i
decreases-loop s i k₀ n₀ hex₀ k n hex = length s - k

read_start-begun-requires : tie.Need-read_start-begun-requires invariant-loop decreases-loop
read_start-begun-requires c κs = c.requires

overflow_sub-length : tie.Need-overflow_sub-length invariant-loop decreases-loop
overflow_sub-length c = omega (arith, c.read_start-begun.ensures.size)

loop-i-init : tie.Need-loop-i-init invariant-loop decreases-loop
loop-i-init c = (c.read_start-begun.ensures.inside, begun _ _ _ c.read_start-begun.ensures)

bounds-s-k : tie.Need-bounds-s-k invariant-loop decreases-loop
bounds-s-k c = inside_within _ _ c.loop-i.invariant.0

returns-then-b-eq34 : tie.Need-returns-then-b-eq34 invariant-loop decreases-loop
returns-then-b-eq34 c = let l = c.before.before in at_mark _ l.args.i l.loop-i.k _ _ l.loop-i.invariant.1 l.loop-i.invariant.0 c.if-b-eq34.true

one_char-x-requires : tie.Need-one_char-x-requires invariant-loop decreases-loop
one_char-x-requires c κs = (c.loop-i.invariant.0, c.if-b-eq34.false)

returns-then-x-eq47 : tie.Need-returns-then-x-eq47 invariant-loop decreases-loop
returns-then-x-eq47 c =
    let x = c.before.before in
    let l = x.before.before.before in
    at_divider _ l.args.i l.loop-i.k _ _ l.loop-i.invariant.1 _ x.one_char-x.ensures c.if-x-eq47.true

overflow_add-length : tie.Need-overflow_add-length invariant-loop decreases-loop
overflow_add-length c =
    let x = c.before.before.before in
    let l = x.before.before.before in
    omega (arith, char_fits _ l.args.i l.loop-i.k _ _ l.loop-i.invariant.1 _ x.one_char-x.ensures l.requires)

loop-i-smaller : tie.Need-loop-i-smaller invariant-loop decreases-loop
loop-i-smaller c =
    let x = c.one_char-x.ensures in
    omega (arith, x.later, inside_within _ _ x.inside)

loop-i-preserved : tie.Need-loop-i-preserved invariant-loop decreases-loop
loop-i-preserved c =
    let x = c.before.before.before.before in
    let l = x.before.before.before in (
      x.one_char-x.ensures.inside,
      over_char _ l.args.i l.loop-i.k _ _ l.loop-i.invariant.1 _ x.one_char-x.ensures c.if-x-eq47.false _
          c.is_lower_hex-hex.ensures,
    )

pub read_spec : {M : Type 1} → statement M
read_spec =
    tie.close (tie.spec invariant-loop decreases-loop read_start-begun-requires overflow_sub-length loop-i-init bounds-s-k returns-then-b-eq34 one_char-x-requires returns-then-x-eq47 overflow_add-length
    (λ c κs. tt) loop-i-smaller loop-i-preserved)
