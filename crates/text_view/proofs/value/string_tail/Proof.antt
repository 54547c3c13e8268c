-- `text_view::value::string_tail` meets its contract. The loop's invariant: the string that goes on at `from` goes on at `i`. The measure is
-- how much of the text is left. Assumes nothing.
use Prim.Native.Nat.{◌-◌}
use native.Mathlib.Omega.{arith}
use lib.ListN.{length}
use Rattle.text_strings.proofs.Cursors.{inside_within, escape_here}
use Rattle.text_view.proofs.Passing.{Reaches, reaches_start, reaches_byte, reaches_char, reaches_close}
use Rattle.text_view.proofs.value.string_tail.Statement.{statement}
use Rattle.text_view.proofs.value.string_tail.Tie as tie

abbrev invariant-loop : tie.invariant-loop-from
invariant-loop s from i₀ i = Reaches s from i

abbrev decreases-loop : tie.decreases-loop-from
decreases-loop s from i₀ i = length s - i

loop-from-init : tie.Need-loop-from-init invariant-loop decreases-loop
loop-from-init c = reaches_start _ _ c.requires

bounds-s-i : tie.Need-bounds-s-i invariant-loop decreases-loop
bounds-s-i c = inside_within _ _ c.loop-from.invariant.inside

overflow_add-result : tie.Need-overflow_add-result invariant-loop decreases-loop
overflow_add-result c = omega (arith, inside_within _ _ c.loop-from.invariant.inside)

returns-then-b-eq34 : tie.Need-returns-then-b-eq34 invariant-loop decreases-loop
returns-then-b-eq34 c = reaches_close _ _ _ c.loop-from.invariant c.if-b-eq34.true

escape_end-i-requires : tie.Need-escape_end-i-requires invariant-loop decreases-loop
escape_end-i-requires c κs = escape_here _ _ c.loop-from.invariant.inside c.if-b-eq92.true

loop-from-smaller-then-b-eq92 : tie.Need-loop-from-smaller-then-b-eq92 invariant-loop decreases-loop
loop-from-smaller-then-b-eq92 c =
    let h = c.escape_end-i.ensures.later in
    omega (arith, inside_within _ _ c.loop-from.invariant.inside)

loop-from-preserved-then-b-eq92 : tie.Need-loop-from-preserved-then-b-eq92 invariant-loop decreases-loop
loop-from-preserved-then-b-eq92 c = reaches_char _ _ _ c.loop-from.invariant _ c.escape_end-i.ensures

overflow_add-i : tie.Need-overflow_add-i invariant-loop decreases-loop
overflow_add-i c = omega (arith, inside_within _ _ c.loop-from.invariant.inside)

loop-from-smaller : tie.Need-loop-from-smaller invariant-loop decreases-loop
loop-from-smaller c = omega (arith, inside_within _ _ c.loop-from.invariant.inside)

loop-from-preserved : tie.Need-loop-from-preserved invariant-loop decreases-loop
loop-from-preserved c = reaches_byte _ _ _ c.loop-from.invariant c.if-b-eq34.false c.if-b-eq92.false

pub string_tail_spec : {M : Type 1} → statement M
string_tail_spec =
    tie.close (tie.spec invariant-loop decreases-loop loop-from-init bounds-s-i overflow_add-result returns-then-b-eq34 escape_end-i-requires loop-from-smaller-then-b-eq92 loop-from-preserved-then-b-eq92 overflow_add-i loop-from-smaller
    loop-from-preserved)
