use Rattle.std.proofs.Common.{arith, ◌+◌, [], ◌∷◌, drop}
use mathlib.Core.Path.{refl, sym, ap, ◌∙◌}
use lib.ListN.{get_or}
use Rattle.text_json.specs.Read.{found, digits_of}
use Rattle.text_json.specs.Content.{decimal, decimal_from}
use Rattle.text_numbers.proofs.NumberSteps.{int_end, int_zero, int_stop, int_more}
use Rattle.text_numbers.proofs.Numerals.{digit_range, decimal_first}
use Rattle.text_numbers.proofs.int_part.Goals as goal

pub returns-then-s-at : goal.returns-then-s-at
returns-then-s-at c = record { past = omega arith; inside = c.requires; read = int_end _ _ c.if-s-at.true }

pub returns-then-b-eq48 : goal.returns-then-b-eq48
unfolding decimal decimal_from
returns-then-b-eq48 c =
    record {
      inside = omega arith;
      some = omega arith;
      digits = 0x30 ∷ [];
      read = int_zero _ _ c.if-s-at.false c.if-b-eq48.true;
      count = refl;
      value = refl;
    }

pub returns-then-not-is_digit : goal.returns-then-not-is_digit
returns-then-not-is_digit c =
    record { past = omega arith; inside = omega arith; read = int_stop _ _ c.if-s-at.false c.if-b-eq48.false (sym c.is_digit.ensures ∙ c.if-not-is_digit.true) }

pub overflow_sub-b : goal.overflow_sub-b
overflow_sub-b c = (digit_range _ (sym c.is_digit.ensures ∙ c.if-not-is_digit.false)).0

pub overflow_cast-b : goal.overflow_cast-b
overflow_cast-b c = let range = digit_range _ (sym c.is_digit.ensures ∙ c.if-not-is_digit.false) in omega arith

pub digits-requires : goal.digits-requires
digits-requires c = let range = digit_range _ (sym c.is_digit.ensures ∙ c.if-not-is_digit.false) in omega arith

pub returns : goal.returns
returns c =
    let got = c.digits.ensures in
    let at = c.args.at in
    let s = c.args.s.now in
    let ds = get_or s at 0 ∷ digits_of (drop (at + 1) s) in
    record {
      inside = got.inside;
      some = omega arith;
      digits = ds;
      read = int_more _ _ c.if-s-at.false c.if-b-eq48.false (sym c.is_digit.ensures ∙ c.if-not-is_digit.false) ∙ ap (found ds) got.rest;
      count = omega (arith, got.count);
      value = rw decimal_first got.value;
    }
