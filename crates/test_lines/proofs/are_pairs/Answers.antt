use Rattle.std.proofs.Common.{refl, sym, ap, ◌∙◌, Bool, ◌&&◌, ◌%◌, length, eqb}
use Rattle.test_lines.specs.Words.{are_pairs}
use Rattle.test_lines.proofs.Words.{all_digits, digits_next, digits_not}
use Rattle.test_lines.proofs.are_pairs.Goals as goal

pub loop-b-init : goal.loop-b-init
loop-b-init c = refl

pub returns-then-not-is_lower_hex : goal.returns-then-not-is_lower_hex
unfolding are_pairs
returns-then-not-is_lower_hex c =
    let hex = c.args.hex.now in
    sym (ap (λ (t : Bool). t && eqb (length hex % 2) 0)
    (sym c.loop-b.invariant ∙ digits_not hex c.loop-b.b-index c.loop-b-test.true (sym c.is_lower_hex.ensures ∙ c.if-not-is_lower_hex.true)))

pub loop-b-preserved : goal.loop-b-preserved
loop-b-preserved c =
    sym (digits_next c.args.hex.now c.loop-b.b-index c.loop-b-test.true (sym c.is_lower_hex.ensures ∙ c.if-not-is_lower_hex.false)) ∙ c.loop-b.invariant

pub returns : goal.returns
unfolding are_pairs
returns c =
    let hex = c.args.hex.now in
    sym (ap (λ (t : Bool). t && eqb (length hex % 2) 0) (sym c.loop-b.invariant ∙ all_digits hex c.loop-b.b-index c.loop-b-test.false))
