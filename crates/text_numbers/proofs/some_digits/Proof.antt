-- `text_numbers::some_digits` meets its contract: `digits` reads what follows the first digit.
-- Assumes nothing.
use mathlib.Core.Path.{sym, ap, ◌∙◌}
use native.Mathlib.Omega.{arith}
use borrow.Author.Tests.{not-true, not-false}
use borrow.Author.Rules.{rules}
use Rattle.text_json.specs.Read.{found}
use Rattle.text_numbers.proofs.NumberSteps.{some_end, some_more, some_stop}
use Rattle.text_numbers.proofs.some_digits.Statement.{statement}
use Rattle.text_numbers.proofs.some_digits.Tie as tie

returns-then-not-is_digit : tie.Need-returns-then-not-is_digit
returns-then-not-is_digit c =
    let other = sym c.is_digit.ensures ∙ not-true _ c.if-not-is_digit.true-raw in
    record { past = omega arith; inside = omega arith; read = some_stop _ _ c.if-s-at.false other }

returns : tie.Need-returns
returns c =
    let got = c.digits-r.ensures in
    let digit = sym c.is_digit.ensures ∙ not-false _ c.if-not-is_digit.false-raw in
    record {
      past = omega arith;
      inside = got.inside;
      read = some_more _ _ c.if-s-at.false digit ∙ ap (found tt) got.rest;
    }

pub some_digits_spec : {M : Type 1} → statement M
some_digits_spec =
    tie.close (tie.spec (λ c. record { past = omega arith; inside = c.before.before.requires; read = some_end _ _ c.if-s-at.true }) (λ c. search rules)
    (λ c κs. search rules) returns-then-not-is_digit (λ c. search rules) (λ c κs. search rules) returns)
