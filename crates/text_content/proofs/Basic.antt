-- What a test or a maximum says of its parts.
use Prim.Native.Nat.{ℕ, max}
use mathlib.Core.Path.{◌≡◌, refl, sym}
use mathlib.Core.Bool.{Bool, true, false, ◌||◌}
use native.Mathlib.Omega.{arith}
use Rattle.laws.proofs.Order.{false_true}

-- If a disjunction is false, its first part is false.
pub or_left : (a b : Bool) → a || b ≡ false → a ≡ false
or_left true b e = e
or_left false b e = refl

-- If a disjunction is false, its second part is false.
pub or_right : (a b : Bool) → a || b ≡ false → b ≡ false
or_right true b e = false_true (sym e)
or_right false b e = e

-- If the maximum of two numbers is 0, the first number is 0.
pub max_left : (a b : ℕ) → max a b ≡ 0 → a ≡ 0
max_left a b e = omega arith

-- If the maximum of two numbers is 0, the second number is 0.
pub max_right : (a b : ℕ) → max a b ≡ 0 → b ≡ 0
max_right a b e = omega arith
