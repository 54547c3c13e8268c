-- The digits that `io` writes are the decimal digits of a number.
use Prim.Native.Nat.{ℕ, zero, suc, ◌+◌, ◌-◌, ◌/◌, ◌%◌, ◌^◌, ◌≤◌, ◌<◌}
use mathlib.Core.Path.{◌≡◌, sym, ap, ◌∙◌}
use mathlib.Core.List.{List, [], ◌∷◌, ◌++◌}
use native.Mathlib.Nat.{pow-le-pow_right}
use native.Mathlib.Omega.{arith}
use native.Mathlib.Numerals.{add-one}
use lib.Dec.{ltb}
use borrow.Author.Tests.{lt-ltb, le-ltb, ltb-true, ltb-false}
use Rattle.laws.proofs.Order.{by_test}
use Rattle.io.specs.Digits.{hex_digit_ascii, last_digits, IsDigitCount}
use Rattle.report_text.specs.Output.{digits_of, decimal}

-- the last digit
last_glyph : (d : ℕ) → d < 10 → hex_digit_ascii d ≡ 0x30 + d
last_glyph d h = rw (lt-ltb d 10 h)

one_digit : (k n : ℕ) → n < 10 → digits_of (suc k) n ≡ (0x30 + n) ∷ []
unfolding digits_of
one_digit k n h = rw (lt-ltb n 10 h, digits_of)

more_digits : (k n : ℕ) → 10 ≤ n → digits_of (suc k) n ≡ digits_of k (n / 10) ++ (0x30 + n % 10) ∷ []
unfolding digits_of
more_digits k n h = rw (le-ltb n 10 h, digits_of)

-- a power is more than its exponent
under_power : (k : ℕ) → k < 10 ^ k
under_power zero = omega arith
under_power (suc k) = let r : k < 10 ^ k = under_power k in omega arith

spelled : (k f n : ℕ) → k ≤ f → n < 10 ^ suc k → (0 < k → 10 ^ k ≤ n) → last_digits 10 (suc k) n ≡ digits_of (suc f) n
spelled zero f n h u l =
    let small : n < 10 = omega arith in
    let same : n % 10 ≡ n = omega arith in
    ap (λ (d : ℕ). hex_digit_ascii d ∷ []) same ∙ ap (λ (g : ℕ). g ∷ []) (last_glyph n small) ∙ sym (one_digit f n small)
spelled (suc k) zero n h u l = absurd (omega arith)
spelled (suc k) (suc f) n h u l =
    let low : 10 ^ suc k ≤ n = l (omega arith) in
    let p : 0 < 10 ^ k = omega (arith, under_power k) in
    let large : 10 ≤ n = omega arith in
    let digit : n % 10 < 10 = omega arith in
    let first : last_digits 10 (suc k) (n / 10) ≡ digits_of (suc f) (n / 10) = spelled k f (n / 10) (omega arith) (omega arith) (λ z. omega arith) in
    ap (λ (ds : List ℕ). ds ++ hex_digit_ascii (n % 10) ∷ []) first ∙ ap (λ (g : ℕ). digits_of (suc f) (n / 10) ++ g ∷ []) (last_glyph (n % 10) digit)
    ∙ sym (more_digits (suc f) n large)

-- The fewest digits that hold a number are its decimal digits.
pub digits_decimal : (n k : ℕ) → IsDigitCount 10 1 n k → last_digits 10 k n ≡ decimal n
unfolding decimal
digits_decimal n zero f = absurd (omega (arith, f.0))
digits_decimal n (suc k) f =
    let same : suc k - 1 ≡ k = omega arith in
    let low : 0 < k → 10 ^ k ≤ n = λ z. rw same at (f.2 (omega arith)) in
    let short : k ≤ n = by_test (ltb 0 k) (λ t. omega (arith, under_power k, low (ltb-true 0 k t))) (λ t. omega (arith, ltb-false 0 k t)) in
    rw (add-one n) (spelled k n n short f.1 low)

-- A number of 64 bits has at most twenty.
pub twenty : (n k : ℕ) → n < 2 ^ 64 → IsDigitCount 10 1 n k → k ≤ 20
twenty n k h f =
    by_test (ltb 20 k)
    (λ t.
    let l : 20 < k = ltb-true 20 k t in
    let low : 10 ^ (k - 1) ≤ n = f.2 (omega arith) in
    let high : 10 ^ 20 ≤ 10 ^ (k - 1) = pow-le-pow_right {n = 10} (omega arith) {i = 20} {j = k - 1} (omega arith) in
    absurd (omega arith))
    (λ t. ltb-false 20 k t)
