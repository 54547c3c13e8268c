-- Bits of a word that is joined from words of one bit each.
use Prim.Native.Nat.{ℕ, zero, suc, ◌+◌, ◌*◌, ◌/◌, ◌%◌, ◌^◌, ◌≤◌, ◌<◌}
use mathlib.Core.Path.{◌≡◌, refl, sym, ap, ap₂, ◌∙◌}
use mathlib.Core.Bool.{Bool, false, ◌||◌}
use mathlib.Core.List.{List, ◌∷◌}
use native.Mathlib.Omega.{arith}
use native.Mathlib.Nat.{one-mul, pow-suc}
use lib.Bits.{bit_or}
use lib.Dec.{eqb, eqb-zero-suc, eqb-suc-zero, eqb-suc-suc}
use lib.ListN.{length, take, get_or}
use lib.Pow.{shl_exact}
use lib.Seq.{take_all}
use Rattle.laws.specs.Any.{any_of}
use Rattle.policy_marks.specs.Words.{bit_at, row_of}
use Rattle.policy_marks.proofs.Closing.{or_row_at}
use Rattle.policy_marks.proofs.Words.{row_bit, row_doubled, row_or}
use Rattle.laws.proofs.Pairs.{any_last}

-- the word 0 has no mark
zero_row : (n j : ℕ) → get_or (row_of n 0) j false ≡ false
unfolding row_of
zero_row zero j = refl
zero_row (suc n) zero = refl
zero_row (suc n) (suc j) = zero_row n j

two_row : (n k : ℕ) → row_of (suc n) (2 ^ suc k) ≡ false ∷ row_of n (2 ^ k)
two_row n k =
    let e : 2 ^ suc k ≡ 2 * 2 ^ k = omega (arith, pow-suc 2 k) in
    ap (row_of (suc n)) e ∙ row_doubled n (2 ^ k)

-- the word of bit k has that mark and no other
one_row : (n k j : ℕ) → j < n → get_or (row_of n (2 ^ k)) j false ≡ eqb k j
unfolding row_of
one_row zero k j h = absurd (omega arith)
one_row (suc n) zero zero h = refl
one_row (suc n) zero (suc j) h = zero_row n j ∙ sym (eqb-zero-suc j)
one_row (suc n) (suc k) zero h = ap (λ (l : List Bool). get_or l 0 false) (two_row n k) ∙ sym (eqb-suc-zero k)
one_row (suc n) (suc k) (suc j) h = ap (λ (l : List Bool). get_or l (suc j) false) (two_row n k) ∙ one_row n k j (omega arith) ∙ sym (eqb-suc-suc k j)

-- The word 0 has no bit.
pub zero_bit : (j : ℕ) → bit_at 0 j ≡ false
zero_bit j = sym (row_bit (suc j) j 0 (omega arith)) ∙ zero_row (suc j) j

-- A word that is joined with that of bit k has this bit and its own.
pub or_bit : (w k j : ℕ) → bit_at (bit_or w (2 ^ k)) j ≡ (bit_at w j || eqb k j)
or_bit w k j =
    sym (row_bit (suc j) j (bit_or w (2 ^ k)) (omega arith)) ∙ ap (λ (l : List Bool). get_or l j false) (row_or (suc j) w (2 ^ k))
    ∙ or_row_at (row_of (suc j) w) (row_of (suc j) (2 ^ k)) j
    ∙ ap₂ (λ (x y : Bool). x || y) (row_bit (suc j) j w (omega arith)) (one_row (suc j) k j (omega arith))

-- the word w has bit j where one of the first i numbers is that of an alias of image j
pub record Owned (order : List ℕ) (i w : ℕ) : Type 0 where
  pub bits : (j : ℕ) → bit_at w j ≡ any_of (λ (e : ℕ). eqb (e / 64) j) (take i order)

-- At first there are no numbers.
pub owned_none : (order : List ℕ) → Owned order 0 0
unfolding any_of
owned_none order = record { bits = zero_bit }

-- The image of the next number is added.
pub owned_next : (order : List ℕ) (i w : ℕ) → i < length order → get_or order i 0 < 4096 → Owned order i w
    → Owned order (i + 1) (bit_or w (1 * 2 ^ (get_or order i 0 / 64) % 18446744073709551616))
owned_next order i w h l o =
    let k = get_or order i 0 / 64 in
    let shifted : 1 * 2 ^ k % 18446744073709551616 ≡ 2 ^ k = shl_exact 1 k 64 (omega arith) (omega arith) ∙ one-mul (2 ^ k) in
    record {
      bits = λ j. ap (λ (x : ℕ). bit_at (bit_or w x) j) shifted ∙ or_bit w k j ∙ ap (λ (x : Bool). x || eqb k j) (o.bits j)
          ∙ sym (any_last (λ (e : ℕ). eqb (e / 64) j) order i 0 h);
    }

-- At last the word is that of all numbers.
pub owned_all : (order : List ℕ) (i w : ℕ) → length order ≤ i → Owned order i w → (j : ℕ) → bit_at w j ≡ any_of (λ (e : ℕ). eqb (e / 64) j) order
owned_all order i w h o j = o.bits j ∙ ap (any_of (λ (e : ℕ). eqb (e / 64) j)) (take_all i order h)
