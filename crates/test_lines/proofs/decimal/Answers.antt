use Rattle.std.proofs.Common.{sym, ◌∙◌, arith}
use borrow.Author.Tests.{eqb-true, eqb-false}
use Rattle.test_lines.proofs.Words.{no_number, some_number, number_read, no_digit, too_large, next_digit, digit_bounds}
use Rattle.test_lines.proofs.decimal.Goals as goal

pub returns-then-is_empty : goal.returns-then-is_empty
returns-then-is_empty c = sym (no_number _ (eqb-true _ _ (sym c.if-is_empty.ensures)))

pub loop-b-init : goal.loop-b-init
loop-b-init c = sym (some_number _ (eqb-false _ _ (sym c.if-is_empty.ensures)))

pub returns-then-not-is_digit : goal.returns-then-not-is_digit
returns-then-not-is_digit c =
    sym (no_digit c.args.s.now c.loop-b.n c.loop-b.b-index c.loop-b-test.true (sym c.is_digit.ensures ∙ c.if-not-is_digit.true)) ∙ c.loop-b.invariant

pub returns-then-n-gt-TENTH : goal.returns-then-n-gt-TENTH
returns-then-n-gt-TENTH c =
    sym (too_large c.args.s.now c.loop-b.n c.loop-b.b-index c.loop-b-test.true (sym c.is_digit.ensures ∙ c.if-not-is_digit.false) c.if-n-gt-TENTH.true)
    ∙ c.loop-b.invariant

pub overflow_sub-n : goal.overflow_sub-n
overflow_sub-n c = (digit_bounds _ (sym c.is_digit.ensures ∙ c.if-not-is_digit.false)).0

pub overflow_add-n : goal.overflow_add-n
overflow_add-n c = omega (arith, digit_bounds _ (sym c.is_digit.ensures ∙ c.if-not-is_digit.false), c.if-n-gt-TENTH.false)

pub loop-b-preserved : goal.loop-b-preserved
loop-b-preserved c =
    sym (next_digit c.args.s.now c.loop-b.n c.loop-b.b-index c.loop-b-test.true (sym c.is_digit.ensures ∙ c.if-not-is_digit.false) c.if-n-gt-TENTH.false)
    ∙ c.loop-b.invariant

pub returns : goal.returns
returns c = sym (number_read c.args.s.now c.loop-b.n c.loop-b.b-index c.loop-b-test.false) ∙ c.loop-b.invariant
