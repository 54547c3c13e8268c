-- `text_numbers::number` meets its contract: a sign is passed over, and `unsigned` reads what follows.
-- Assumes nothing.
use native.Mathlib.Omega.{arith}
use borrow.Author.Rules.{rules}
use Rattle.text_json.proofs.Places.{scans_stuck}
use Rattle.text_numbers.proofs.NumberSteps.{number_end, number_minus, number_plain}
use Rattle.text_numbers.proofs.Numerals.{within_minus, within_plain}
use Rattle.text_numbers.proofs.number.Statement.{statement}
use Rattle.text_numbers.proofs.number.Tie as tie

returns-then-s-at : tie.Need-returns-then-s-at
returns-then-s-at c = (omega arith, scans_stuck _ _ c.requires _ _ _ (number_end _ _ c.if-s-at.true))

returns-then-s-at-eq45 : tie.Need-returns-then-s-at-eq45
returns-then-s-at-eq45 c =
    let start = c.before.before.before.before.before in
    let read = number_minus start.args.s.now start.args.at c.if-s-at.false c.if-s-at-eq45.true in
    (within_minus start.args.at c.unsigned.result c.unsigned.ensures.0, rw read c.unsigned.ensures.1)

returns-else-s-at-eq45 : tie.Need-returns-else-s-at-eq45
returns-else-s-at-eq45 c =
    let start = c.before.before.before.before.before in
    let read = number_plain start.args.s.now start.args.at c.if-s-at.false c.if-s-at-eq45.false in
    (within_plain start.args.at c.unsigned-else-s-at-eq45.result c.unsigned-else-s-at-eq45.ensures.0, rw read c.unsigned-else-s-at-eq45.ensures.1)

pub number_spec : {M : Type 1} → statement M
number_spec =
    tie.close (tie.spec returns-then-s-at (λ c. search rules) (λ c. search rules) (λ c κs. search rules) (λ c κs. search rules) returns-then-s-at-eq45 returns-else-s-at-eq45)
