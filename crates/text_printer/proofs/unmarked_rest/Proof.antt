-- `text_printer::unmarked_rest` meets its contract: eight bytes and those after them, or those from the start on.
-- Assumes nothing.
use Prim.Native.Nat.{◌+◌}
use mathlib.Core.Path.{sym, ◌∙◌}
use native.Mathlib.Omega.{arith}
use borrow.Author.Rules.{rules}
use Rattle.laws.proofs.Spans.{span_both}
use Rattle.text_printer.specs.Unmarked.{Unmarked}
use Rattle.text_printer.proofs.Runs.{unmarked_run_is}
use Rattle.text_printer.proofs.unmarked_rest.Statement.{statement}
use Rattle.text_printer.proofs.unmarked_rest.Tie as tie

-- the eight bytes that were tested
eight : (c : tie.Then-unmarked_left) → let a = c.args in Unmarked a.s.now a.at (a.at + 8)
eight c =
    let b = c.before.before.before in
    unmarked_run_is b.args.s.now b.args.at 8 b.requires (sym c.unmarked_left.ensures ∙ c.if-unmarked_left.true)

pub unmarked_rest_spec : {M : Type 1} → statement M
unmarked_rest_spec =
    tie.close (tie.spec (λ c κs. search rules) (λ c. omega (arith, (eight c).fits, c.well_formed)) (λ c κs. (eight c).fits)
    (λ c. record { run = span_both _ _ _ _ _ (eight c.before) c.unmarked_tail.ensures.run; stops = c.unmarked_tail.ensures.stops })
    (λ c κs. search rules) (λ c. search rules))
