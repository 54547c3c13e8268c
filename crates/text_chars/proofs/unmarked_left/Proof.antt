-- `text_chars::unmarked_left` meets its contract: too few bytes, or the test of the bytes. Assumes nothing.
use borrow.Author.Rules.{rules}
use mathlib.Core.Path.{◌∙◌}
use native.Mathlib.Omega.{arith}
use lib.ListN.{length-drop}
use Rattle.text_chars.proofs.Plain.{unmarked_short, unmarked_enough}
use Rattle.text_chars.proofs.unmarked_left.Statement.{statement}
use Rattle.text_chars.proofs.unmarked_left.Tie as tie

returns-then-s-at : tie.Need-returns-then-s-at
returns-then-s-at c = unmarked_short _ _ (rw length-drop (omega arith))

returns : tie.Need-returns
returns c = c.unmarked.ensures ∙ unmarked_enough _ _ (rw length-drop (omega arith))

pub unmarked_left_spec : {M : Type 1} → statement M
unmarked_left_spec =
    tie.close (tie.spec (λ c. search rules) returns-then-s-at (λ c κs. search rules) returns)
