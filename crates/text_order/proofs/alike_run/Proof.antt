-- `text_order::alike_run` meets its contract: too few bytes on either side, or the two tests of `count` bytes.
-- Assumes nothing.
use borrow.Author.Rules.{rules}
use mathlib.Core.Path.{sym, ◌∙◌}
use borrow.Author.Tests.{not-true, not-false}
use native.Mathlib.Omega.{arith}
use lib.ListN.{length-drop}
use Rattle.text_order.proofs.Alike.{few_first, few_second, not_same, enough}
use Rattle.text_order.proofs.alike_run.Statement.{statement}
use Rattle.text_order.proofs.alike_run.Tie as tie

returns-then-s-i : tie.Need-returns-then-s-i
returns-then-s-i c = few_first _ _ _ (rw length-drop (omega arith))

returns-then-t-j : tie.Need-returns-then-t-j
returns-then-t-j c = few_second _ _ _ (rw length-drop (omega arith)) (rw length-drop (omega arith))

same_run-requires : tie.Need-same_run-requires
same_run-requires c κs = (omega arith, omega arith)

returns-then-not-same_run : tie.Need-returns-then-not-same_run
returns-then-not-same_run c =
    not_same _ _ _ (rw length-drop (omega arith)) (rw length-drop (omega arith)) (sym c.same_run.ensures ∙ not-true _ c.if-not-same_run.true-raw)

returns : tie.Need-returns
returns c =
    c.unmarked.ensures
    ∙ enough _ _ _ (rw length-drop (omega arith)) (rw length-drop (omega arith)) (sym c.same_run.ensures
    ∙ not-false _ c.if-not-same_run.false-raw)

pub alike_run_spec : {M : Type 1} → statement M
alike_run_spec =
    tie.close (tie.spec (λ c. search rules) returns-then-s-i (λ c. search rules) returns-then-t-j same_run-requires returns-then-not-same_run (λ c κs. omega arith) returns)
