-- `text_printer::unmarked_end` meets its contract. The loop's invariant: none of the bytes passed is a mark. The measure is how much is left.
-- Assumes nothing.
use Prim.Native.Nat.{◌+◌, ◌-◌}
use mathlib.Core.Path.{refl, sym, ◌∙◌}
use native.Mathlib.Omega.{arith}
use lib.ListN.{length}
use Rattle.laws.proofs.Spans.{span_none, span_both}
use Rattle.text_printer.specs.Unmarked.{Unmarked}
use Rattle.text_printer.proofs.Runs.{unmarked_run_is}
use Rattle.text_printer.proofs.unmarked_end.Statement.{statement}
use Rattle.text_printer.proofs.unmarked_end.Tie as tie

abbrev invariant-loop : tie.invariant-loop-i
invariant-loop s at i₀ i = Unmarked s at i

abbrev decreases-loop : tie.decreases-loop-i
decreases-loop s at i₀ i = length s - i

-- the sixteen bytes that were tested
sixteen : (c : tie.In-loop-i invariant-loop decreases-loop) → let l = c.before.before in Unmarked l.args.s.now l.loop-i.i (l.loop-i.i + 16)
sixteen c =
    let l = c.before.before in
    unmarked_run_is l.args.s.now l.loop-i.i 16 l.loop-i.invariant.fits (sym c.unmarked_left.ensures ∙ c.loop-i-test.true)

pub unmarked_end_spec : {M : Type 1} → statement M
unmarked_end_spec =
    tie.close (tie.spec invariant-loop decreases-loop (λ c. span_none _ _ _ _ refl c.before.requires) (λ c κs. c.loop-i.invariant.fits)
    (λ c. omega (arith, (sixteen c).fits, c.well_formed)) (λ c. omega (arith, (sixteen c).fits))
    (λ c. span_both _ _ _ _ _ c.loop-i.invariant (sixteen c)) (λ c κs. c.loop-i.invariant.fits)
    (λ c. record {
      run = span_both _ _ _ _ _ c.loop-i.invariant c.unmarked_rest.ensures.run;
      stops = c.unmarked_rest.ensures.stops;
    }))
