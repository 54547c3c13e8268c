-- `text_view::value::string_end` meets its contract. The loop's invariant: the string that goes on at `from` goes on at `i`. The measure is
-- how much of the text is left. Assumes nothing.
use Prim.Native.Nat.{◌-◌}
use mathlib.Core.Path.{sym, ◌∙◌}
use native.Mathlib.Omega.{arith}
use lib.ListN.{length}
use Rattle.text_strings.proofs.Cursors.{inside_within}
use Rattle.text_view.proofs.Passing.{run_fits, Reaches, reaches_start, reaches_run, reaches_end}
use Rattle.text_view.proofs.value.string_end.Statement.{statement}
use Rattle.text_view.proofs.value.string_end.Tie as tie

abbrev invariant-loop : tie.invariant-loop-i
invariant-loop s from i₀ i = Reaches s from i

abbrev decreases-loop : tie.decreases-loop-i
decreases-loop s from i₀ i = length s - i

loop-i-init : tie.Need-loop-i-init invariant-loop decreases-loop
loop-i-init c = reaches_start _ _ c.requires

unmarked_left-requires : tie.Need-unmarked_left-requires invariant-loop decreases-loop
unmarked_left-requires c κs = omega (arith, inside_within _ _ c.loop-i.invariant.inside)

overflow_add-i : tie.Need-overflow_add-i invariant-loop decreases-loop
overflow_add-i c =
    let l = c.loop-i in
    let s = c.args.s.now in
    let w = inside_within s l.i l.invariant.inside in
    omega (arith, run_fits s l.i 16 (sym c.unmarked_left.ensures ∙ c.loop-i-test.true) (omega arith))

loop-i-smaller : tie.Need-loop-i-smaller invariant-loop decreases-loop
loop-i-smaller c = omega (arith, inside_within _ _ c.loop-i.invariant.inside)

loop-i-preserved : tie.Need-loop-i-preserved invariant-loop decreases-loop
loop-i-preserved c = reaches_run _ _ _ c.loop-i.invariant 16 (sym c.unmarked_left.ensures ∙ c.loop-i-test.true)

string_rest-requires : tie.Need-string_rest-requires invariant-loop decreases-loop
string_rest-requires c κs = c.loop-i.invariant.inside

returns : tie.Need-returns invariant-loop decreases-loop
returns c = reaches_end _ _ _ c.loop-i.invariant _ c.string_rest.ensures

pub string_end_spec : {M : Type 1} → statement M
string_end_spec =
    tie.close (tie.spec invariant-loop decreases-loop loop-i-init unmarked_left-requires overflow_add-i loop-i-smaller loop-i-preserved string_rest-requires returns)
