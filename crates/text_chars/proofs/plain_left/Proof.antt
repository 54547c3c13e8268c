-- `text_chars::plain_left` meets its contract: too few bytes, or the four tests of a plain byte, each made of all bytes.
-- Assumes nothing.
use borrow.Author.Rules.{rules}
use mathlib.Core.Path.{◌∙◌}
use native.Mathlib.Omega.{arith}
use lib.ListN.{length-drop}
use Rattle.text_chars.proofs.Plain.{every_plain, run_short, run_enough}
use Rattle.text_chars.proofs.plain_left.Statement.{statement}
use Rattle.text_chars.proofs.plain_left.Tie as tie

returns-then-s-at : tie.Need-returns-then-s-at
returns-then-s-at c = run_short _ _ (rw length-drop (omega arith))

returns : tie.Need-returns
returns c =
    rw (c.none_below_space.ensures, c.none_is.ensures, c.none_is-2.ensures, c.none_is-3.ensures)
    (every_plain _ ∙ run_enough _ _ (rw length-drop (omega arith)))

pub plain_left_spec : {M : Type 1} → statement M
plain_left_spec =
    tie.close (tie.spec (λ c. search rules) returns-then-s-at (λ c κs. search rules) (λ c κs. search rules) (λ c κs. search rules) (λ c κs. search rules) returns)
