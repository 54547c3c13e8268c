-- `test_lines::digit` meets its contract: the tests that were made say what kind of byte it is. Assumes nothing.
use mathlib.Core.Path.{sym, ◌∙◌}
use native.Mathlib.Omega.{arith}
use borrow.Author.Rules.{rules}
use Rattle.text_json.proofs.ByteTests.{between_true}
use Rattle.test_lines.proofs.Words.{digit_bounds, decimal_value, letter_value, no_value}
use Rattle.test_lines.proofs.digit.Statement.{statement}
use Rattle.test_lines.proofs.digit.Tie as tie

overflow_sub-result : tie.Need-overflow_sub-result
overflow_sub-result c = (digit_bounds _ (sym c.is_digit.ensures ∙ c.if-is_digit.true)).0

returns-then-is_digit : tie.Need-returns-then-is_digit
returns-then-is_digit c =
    let e = sym c.is_digit.ensures ∙ c.if-is_digit.true in
    (sym (decimal_value _ e), omega (arith, digit_bounds _ e))

overflow_sub-result-then-between : tie.Need-overflow_sub-result-then-between
overflow_sub-result-then-between c = (between_true _ _ _ (sym c.between.ensures ∙ c.if-between.true)).0

returns-then-between : tie.Need-returns-then-between
returns-then-between c =
    let d = c.before.before in
    let e = sym d.is_digit.ensures ∙ d.if-is_digit.false in
    let f = sym c.between.ensures ∙ c.if-between.true in
    (omega (arith, letter_value _ e f, between_true _ _ _ f), omega (arith, between_true _ _ _ f))

returns : tie.Need-returns
returns c =
    let d = c.before.before in
    (sym (no_value _ (sym d.is_digit.ensures ∙ d.if-is_digit.false) (sym c.between.ensures ∙ c.if-between.false)), omega arith)

pub digit_spec : {M : Type 1} → statement M
digit_spec =
    tie.close (tie.spec (λ c κs. search rules) overflow_sub-result returns-then-is_digit (λ c κs. search rules) overflow_sub-result-then-between
    (λ c. search rules) returns-then-between returns)
