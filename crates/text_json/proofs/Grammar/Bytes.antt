-- The sets of bytes: their cases, and that they are apart.
use Prim.Native.Nat.{ℕ}
use mathlib.Core.Path.{◌≡◌, refl}
use mathlib.Core.Bool.{Bool, true, false, ◌||◌}
use native.Mathlib.Omega.{arith}
use lib.Dec.{eqb}
use borrow.Author.Tests.{eqb-true, ne_eqb}
use Rattle.text_json.specs.Bytes.{is_space, is_exp}

-- a test has one outcome
pub both_ways : {C : Type 0} {x : Bool} → x ≡ true → x ≡ false → C
both_ways e f = let z : ◌≡◌ {A = ℕ} 0 1 = cc in absurd (omega arith)

-- What follows from either of two tests follows from their disjunction.
pub or_cases : {C : Type 0} (x y : Bool) → (x || y) ≡ true → (x ≡ true → C) → (y ≡ true → C) → C
or_cases true y h f g = f refl
or_cases false y h f g = g h

at : (P : ℕ → Type 0) (k : ℕ) → P k → (b : ℕ) → eqb b k ≡ true → P b
at P k p b e = rw (eqb-true b k e) p

-- What holds of space, line feed, carriage return and tab holds of every byte of white space.
pub space_cases : (P : ℕ → Type 0) → P 0x20 → P 0x0A → P 0x0D → P 0x09 → (b : ℕ) → is_space b ≡ true → P b
unfolding is_space
space_cases P p₁ p₂ p₃ p₄ b h =
    or_cases (eqb b 0x20) _ h (at P 0x20 p₁ b) (λ h₁.
    or_cases (eqb b 0x0A) _ h₁ (at P 0x0A p₂ b) (λ h₂.
    or_cases (eqb b 0x0D) _ h₂ (at P 0x0D p₃ b) (at P 0x09 p₄ b)))

-- What holds of the letters e and E holds of every byte that begins an exponent.
pub exp_cases : (P : ℕ → Type 0) → P 0x65 → P 0x45 → (b : ℕ) → is_exp b ≡ true → P b
unfolding is_exp
exp_cases P p q b h = or_cases (eqb b 0x65) _ h (at P 0x65 p b) (at P 0x45 q b)

-- a byte of the set is not a byte k outside it
pub apart : (p : ℕ → Bool) (k b : ℕ) → p k ≡ false → p b ≡ true → eqb b k ≡ false
apart p k b f e = ne_eqb b k (λ q. both_ways e (rw q f))
