use Rattle.std.proofs.Common.{arith, ◌≡◌, ◌+◌, ◌-◌, ◌*◌, ◌≤◌, ◌<◌, ℕ, suc, zero}
use mathlib.Core.Path.{refl, sym, ◌∙◌}
use Rattle.text_json.proofs.ByteTests.{hex_below}
use Rattle.text_chars.proofs.Digits.{bound, bound_most, bound_more, digit_more, digit_stop, digit_end}
use Rattle.text_chars.proofs.hex4.Goals as goal

pub loop-i-init : goal.loop-i-init
loop-i-init c =
    let four : c.args.at + 4 - c.args.at ≡ suc 3 = omega arith in
    record { inside = c.requires; small = rw four (omega arith); same = rw four refl }

pub returns-then-s-i : goal.returns-then-s-i
returns-then-s-i c =
    let p = c.loop-i.invariant in
    let left : c.args.at + 4 - c.loop-i.i ≡ suc (c.args.at + 3 - c.loop-i.i) = omega arith in
    (omega arith, p.inside, rw left at p.same ∙ digit_end c.args.s.now c.loop-i.i c.loop-i.n _ c.if-s-i.true)

pub returns-then-not-is_hex : goal.returns-then-not-is_hex
returns-then-not-is_hex c =
    let p = c.loop-i.invariant in
    let left : c.args.at + 4 - c.loop-i.i ≡ suc (c.args.at + 3 - c.loop-i.i) = omega arith in
    let other = sym c.is_hex.ensures ∙ c.if-not-is_hex.true in
    (omega arith, p.inside, rw left at p.same ∙ digit_stop c.args.s.now c.loop-i.i c.loop-i.n _ c.if-s-i.false other)

pub hex_value-requires : goal.hex_value-requires
hex_value-requires c = sym c.is_hex.ensures ∙ c.if-not-is_hex.false

-- with the digit at i the number stays below its bound
grown : (at i n d : ℕ) → at ≤ i → i < at + 4 → n < bound (at + 4 - i) → d < 16 → n * 16 + d < bound (at + 3 - i)
grown at i n d a h small l =
    let left : at + 4 - i ≡ suc (at + 3 - i) = omega arith in
    bound_more (at + 3 - i) n d (omega arith) (rw left at small) l

pub overflow_mul-n : goal.overflow_mul-n
overflow_mul-n c =
    let g = grown c.args.at c.loop-i.i c.loop-i.n 0 c.loop-i.auto.i c.loop-i-test.true c.loop-i.invariant.small (omega arith) in
    omega (arith, g, bound_most (c.args.at + 3 - c.loop-i.i))

pub overflow_add-n : goal.overflow_add-n
overflow_add-n c =
    let below : c.hex_value.result < 16 = rw c.hex_value.ensures (hex_below _ (sym c.is_hex.ensures ∙ c.if-not-is_hex.false)) in
    let g = grown c.args.at c.loop-i.i c.loop-i.n _ c.loop-i.auto.i c.loop-i-test.true c.loop-i.invariant.small below in
    omega (arith, g, bound_most (c.args.at + 3 - c.loop-i.i))

pub loop-i-preserved : goal.loop-i-preserved
loop-i-preserved c =
    let p = c.loop-i.invariant in
    let digit = sym c.is_hex.ensures ∙ c.if-not-is_hex.false in
    let below : c.hex_value.result < 16 = rw c.hex_value.ensures (hex_below _ digit) in
    let left : c.args.at + 4 - c.loop-i.i ≡ suc (c.args.at + 3 - c.loop-i.i) = omega arith in
    let next : c.args.at + 4 - (c.loop-i.i + 1) ≡ c.args.at + 3 - c.loop-i.i = omega arith in
    record {
      inside = omega arith;
      small = rw next (grown c.args.at c.loop-i.i c.loop-i.n _ c.loop-i.auto.i c.loop-i-test.true p.small below);
      same = rw (next, c.hex_value.ensures) (rw left at p.same ∙ digit_more c.args.s.now c.loop-i.i c.loop-i.n _ c.if-s-i.false digit);
    }

pub returns : goal.returns
returns c =
    let p = c.loop-i.invariant in
    let last : c.loop-i.i ≡ c.args.at + 4 = omega (arith, c.loop-i.auto.i-end (omega arith)) in
    let none : c.args.at + 4 - c.loop-i.i ≡ zero = omega arith in
    let same = rw none at p.same in
    (omega (arith, p.inside), rw none at p.small, rw last at same)
