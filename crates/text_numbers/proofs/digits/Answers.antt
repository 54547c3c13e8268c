use Rattle.std.proofs.Common.{arith, ◌≡◌, ◌+◌, ◌≤◌, ℕ, List, [], length, drop}
use mathlib.Core.Path.{refl, sym, ◌∙◌}
use Rattle.text_json.specs.Read.{digits_of, after_digits}
use Rattle.text_json.specs.Content.{decimal_from}
use Rattle.text_numbers.specs.Parts.{Near, Runs}
use Rattle.text_numbers.proofs.NumberSteps.{digits_more, digits_stop, digits_end, after_more, after_stop, after_end}
use Rattle.text_numbers.proofs.Numerals.{digit_range, near_from}
use Rattle.text_numbers.proofs.digits.Goals as goal

-- where no digit stands at i, the digits end there
ends : (s : List ℕ) (at from i n : ℕ) → i ≤ length s → after_digits (drop at s) ≡ after_digits (drop i s)
    → at + length (digits_of (drop at s)) ≡ i + length (digits_of (drop i s))
    → Near (decimal_from n (digits_of (drop i s))) (decimal_from from (digits_of (drop at s)))
    → digits_of (drop i s) ≡ [] → after_digits (drop i s) ≡ drop i s → Runs s at from (record { end = i; value = n })
unfolding decimal_from
ends s at from i n inside rest count value none after =
    let c = rw none at count in
    record { inside = inside; rest = rest ∙ after; count = omega arith; value = rw none at value }

pub loop-i-init : goal.loop-i-init
loop-i-init c = record { small = omega arith; rest = refl; count = refl; value = refl }

pub returns-then-not-is_digit : goal.returns-then-not-is_digit
returns-then-not-is_digit c =
    let l = c.loop-i in
    let s = c.args.s.now in
    let other = sym c.is_digit.ensures ∙ c.if-not-is_digit.true in
    ends s c.args.at c.args.from l.i l.n (omega arith) l.invariant.rest l.invariant.count l.invariant.value
    (digits_stop s l.i c.loop-i-test.true other) (after_stop s l.i c.loop-i-test.true other)

pub overflow_sub-b : goal.overflow_sub-b
overflow_sub-b c = (digit_range _ (sym c.is_digit.ensures ∙ c.if-not-is_digit.false)).0

pub overflow_cast-b : goal.overflow_cast-b
overflow_cast-b c = let range = digit_range _ (sym c.is_digit.ensures ∙ c.if-not-is_digit.false) in omega arith

pub grow-n-requires : goal.grow-n-requires
grow-n-requires c = let range = digit_range _ (sym c.is_digit.ensures ∙ c.if-not-is_digit.false) in (c.loop-i.invariant.small, omega arith)

pub loop-i-preserved : goal.loop-i-preserved
unfolding decimal_from
loop-i-preserved c =
    let l = c.loop-i in
    let s = c.args.s.now in
    let digit = sym c.is_digit.ensures ∙ c.if-not-is_digit.false in
    let more = digits_more s l.i c.loop-i-test.true digit in
    let count = rw more at l.invariant.count in
    record {
      small = c.grow-n.ensures.0;
      rest = l.invariant.rest ∙ after_more s l.i c.loop-i-test.true digit;
      count = omega arith;
      value = near_from (digits_of (drop (l.i + 1) s)) _ _ c.grow-n.ensures.1 ∙ rw more at l.invariant.value;
    }

pub returns : goal.returns
returns c =
    let l = c.loop-i in
    let s = c.args.s.now in
    let last : l.i ≡ length s = omega (arith, l.auto.i-end c.requires.0) in
    rw last at (ends s c.args.at c.args.from l.i l.n (omega arith) l.invariant.rest l.invariant.count l.invariant.value
    (digits_end s l.i c.loop-i-test.false) (after_end s l.i c.loop-i-test.false))
