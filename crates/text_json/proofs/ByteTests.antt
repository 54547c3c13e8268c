-- What the tests on bytes say of a byte.
-- Assumes nothing.
use Prim.Native.Nat.{ℕ, ◌≤◌, ◌<◌}
use mathlib.Core.Path.{◌≡◌, refl}
use mathlib.Core.Bool.{Bool, true, false, ◌||◌, and-eq-true_iff}
use mathlib.Core.Logic.{◌⊎◌, inl, inr, ⊎_elim}
use native.Mathlib.Omega.{arith}
use borrow.Author.Tests.{leb-true, le-leb, lt-leb}
use lib.Dec.{leb}
use Rattle.text_json.specs.Bytes.{between, is_hex, hex_value}
use Rattle.text_json.specs.Grammar.{hex_number}

-- Where the disjunction of two tests is true, one of the two is true.
pub or_cases : (x y : Bool) → x || y ≡ true → (x ≡ true) ⊎ (y ≡ true)
or_cases true y e = inl refl
or_cases false y e = inr e

-- A byte that passes the test of a range is at least its low bound and at most its high bound.
pub between_true : (low high b : ℕ) → between low high b ≡ true → (low ≤ b) × (b ≤ high)
unfolding between
between_true low high b e =
    let h = (and-eq-true_iff (leb low b) (leb b high)).0 e in
    (leb-true low b h.0, leb-true b high h.1)

-- a hexadecimal digit is a decimal one or one of the letters A to F, of either case
pub hex_cases : (b : ℕ) → is_hex b ≡ true
    → ((0x30 ≤ b) × (b ≤ 0x39)) ⊎ (((0x41 ≤ b) × (b ≤ 0x46)) ⊎ ((0x61 ≤ b) × (b ≤ 0x66)))
unfolding is_hex
hex_cases b e =
    ⊎_elim (λ h. inl (between_true 0x30 0x39 b h))
    (λ h. inr (⊎_elim (λ g. inl (between_true 0x41 0x46 b g)) (λ g. inr (between_true 0x61 0x66 b g)) (or_cases _ _ h)))
    (or_cases _ _ e)

-- No hexadecimal digit is below 30 (hex), the digit 0.
pub hex_low : (b : ℕ) → is_hex b ≡ true → 0x30 ≤ b
hex_low b e = ⊎_elim (λ h. h.0) (⊎_elim (λ h. omega arith) (λ h. omega arith)) (hex_cases b e)

-- A hexadecimal digit above 46 (hex), the letter F, is at least 61 (hex), the letter a.
pub hex_lower : (b : ℕ) → is_hex b ≡ true → 0x46 < b → 0x61 ≤ b
hex_lower b e l = ⊎_elim (λ h. omega arith) (⊎_elim (λ h. omega arith) (λ h. h.0)) (hex_cases b e)

-- A hexadecimal digit stands for a number below 16.
pub hex_below : (b : ℕ) → is_hex b ≡ true → hex_value b < 16
unfolding hex_value
hex_below b e =
    ⊎_elim (λ h. rw (hex_value, le-leb b 0x39 h.1) (omega arith))
    (⊎_elim (λ h. rw (hex_value, lt-leb b 0x39 (omega arith), le-leb b 0x46 h.1) (omega arith))
    (λ h. rw (hex_value, lt-leb b 0x39 (omega arith), lt-leb b 0x46 (omega arith)) (omega arith)))
    (hex_cases b e)

-- Four hexadecimal digits stand for a number below 10000 (hex).
pub number_below : (a b c d : ℕ) → is_hex a ≡ true → is_hex b ≡ true → is_hex c ≡ true → is_hex d ≡ true → hex_number a b c d < 0x10000
unfolding hex_number
number_below a b c d e f g h = omega (arith, hex_below a e, hex_below b f, hex_below c g, hex_below d h)
