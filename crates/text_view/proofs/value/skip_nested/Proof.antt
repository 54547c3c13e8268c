-- `text_view::value::skip_nested` meets its contract. The loop's invariant: with `open` brackets open at `i`, closing them ends the list. The
-- measure is how much of the text is left. Assumes nothing.
use Prim.Native.Nat.{◌-◌}
use native.Mathlib.Omega.{arith}
use lib.ListN.{length}
use Rattle.text_view.proofs.Counting.{Counted, counted_start, counted_within, counted_inside, counted_string, counted_open, open_fits, counted_end}
use Rattle.text_view.proofs.Counting.{counted_other, counted_done}
use Rattle.text_view.proofs.value.skip_nested.Statement.{statement}
use Rattle.text_view.proofs.value.skip_nested.Tie as tie

abbrev invariant-loop : tie.invariant-loop-open
invariant-loop s from i₀ open₀ i «open» = Counted s from i «open»

abbrev decreases-loop : tie.decreases-loop-open
decreases-loop s from i₀ open₀ i «open» = length s - i

loop-open-init : tie.Need-loop-open-init invariant-loop decreases-loop
loop-open-init c = counted_start _ _ c.requires

-- a byte stands at `i` while a bracket is open
bounds-s-i : tie.Need-bounds-s-i invariant-loop decreases-loop
bounds-s-i c = counted_within _ _ _ _ c.loop-open-test.true c.loop-open.invariant

overflow_add-i : tie.Need-overflow_add-i invariant-loop decreases-loop
overflow_add-i c = let d = c.before.before in omega (arith, counted_within _ _ _ _ d.loop-open-test.true d.loop-open.invariant)

string_end-i-requires : tie.Need-string_end-i-requires invariant-loop decreases-loop
string_end-i-requires c κs = let d = c.before.before in counted_inside _ _ _ _ d.loop-open-test.true d.loop-open.invariant c.if-b-eq34.true

loop-open-smaller-then-b-eq34 : tie.Need-loop-open-smaller-then-b-eq34 invariant-loop decreases-loop
loop-open-smaller-then-b-eq34 c =
    let d = c.before.before.before in
    let h = c.string_end-i.ensures.later in
    omega (arith, counted_within _ _ _ _ d.loop-open-test.true d.loop-open.invariant)

loop-open-preserved-then-b-eq34 : tie.Need-loop-open-preserved-then-b-eq34 invariant-loop decreases-loop
loop-open-preserved-then-b-eq34 c =
    let d = c.before.before.before in
    counted_string _ _ _ _ d.loop-open-test.true d.loop-open.invariant c.if-b-eq34.true _ c.string_end-i.ensures

overflow_add-i-else-b-eq34 : tie.Need-overflow_add-i-else-b-eq34 invariant-loop decreases-loop
overflow_add-i-else-b-eq34 c = let d = c.before.before in omega (arith, counted_within _ _ _ _ d.loop-open-test.true d.loop-open.invariant)

overflow_add-open : tie.Need-overflow_add-open invariant-loop decreases-loop
overflow_add-open c = let d = c.before.before.before in omega (arith, open_fits _ _ _ _ d.loop-open-test.true d.loop-open.invariant c.in-91.is)

loop-open-smaller-in-91 : tie.Need-loop-open-smaller-in-91 invariant-loop decreases-loop
loop-open-smaller-in-91 c = let d = c.before.before.before in omega (arith, counted_within _ _ _ _ d.loop-open-test.true d.loop-open.invariant)

loop-open-preserved-in-91 : tie.Need-loop-open-preserved-in-91 invariant-loop decreases-loop
loop-open-preserved-in-91 c = let d = c.before.before.before in counted_open _ _ _ _ d.loop-open-test.true d.loop-open.invariant c.in-91.is

overflow_sub-open : tie.Need-overflow_sub-open invariant-loop decreases-loop
overflow_sub-open c = omega (arith, c.loop-open-test.true)

loop-open-smaller-in-93 : tie.Need-loop-open-smaller-in-93 invariant-loop decreases-loop
loop-open-smaller-in-93 c = let d = c.before.before.before in omega (arith, counted_within _ _ _ _ d.loop-open-test.true d.loop-open.invariant)

loop-open-preserved-in-93 : tie.Need-loop-open-preserved-in-93 invariant-loop decreases-loop
loop-open-preserved-in-93 c = let d = c.before.before.before in counted_end _ _ _ _ d.loop-open-test.true d.loop-open.invariant c.in-93.is

loop-open-smaller : tie.Need-loop-open-smaller invariant-loop decreases-loop
loop-open-smaller c = let d = c.before.before.before in omega (arith, counted_within _ _ _ _ d.loop-open-test.true d.loop-open.invariant)

loop-open-preserved : tie.Need-loop-open-preserved invariant-loop decreases-loop
loop-open-preserved c =
    let d = c.before.before.before in
    let n = c.in_default.in_default-own.rest in
    counted_other _ _ _ _ d.loop-open-test.true d.loop-open.invariant c.if-b-eq34.false n.0.1 n.1

returns : tie.Need-returns invariant-loop decreases-loop
returns c = counted_done _ _ _ _ (omega (arith, c.loop-open-test.false)) c.loop-open.invariant

pub skip_nested_spec : {M : Type 1} → statement M
skip_nested_spec =
    tie.close (tie.spec invariant-loop decreases-loop loop-open-init bounds-s-i overflow_add-i string_end-i-requires loop-open-smaller-then-b-eq34 loop-open-preserved-then-b-eq34 overflow_add-i-else-b-eq34 overflow_add-open
    loop-open-smaller-in-91 loop-open-preserved-in-91 overflow_sub-open loop-open-smaller-in-93 loop-open-preserved-in-93 loop-open-smaller loop-open-preserved returns)
