-- Rows and tables in words: the marks are the bits, and two words are joined bit by bit.
use Prim.Native.Nat.{ℕ, zero, suc, ◌+◌, ◌*◌, ◌/◌, ◌%◌, ◌^◌, ◌≤◌, ◌<◌, max}
use mathlib.Core.Path.{◌≡◌, refl, sym, ap, ap₂, ◌∙◌, subst}
use mathlib.Core.List.{List, [], ◌∷◌, map}
use mathlib.Core.Bool.{Bool, false, ◌||◌}
use native.Mathlib.Omega.{arith}
use native.Mathlib.Nat.{add-zero, div-one, pow-suc}
use native.Mathlib.Numerals.{one-add}
use lib.Bits.{bit_or, or_step}
use lib.Dec.{eqb}
use lib.ListN.{length, take, get_or, length-map, get_or-map, get_or-eq_default}
use lib.Pow.{shr-shr}
use lib.Seq.{length-take-le, get_or-take}
use Rattle.laws.proofs.Lists.{any_default}
use Rattle.policy_marks.specs.Marks.{mark, or_row}
use Rattle.policy_marks.specs.Words.{bit_at, row_of, rows_of}

-- A row of n marks has n marks.
pub row_length : (n w : ℕ) → length (row_of n w) ≡ n
unfolding row_of
row_length zero w = refl
row_length (suc n) w = ap suc (row_length n (w / 2))

-- A table of n rows has n rows.
pub rows_length : (n : ℕ) (words : List ℕ) → n ≤ length words → length (rows_of n words) ≡ n
unfolding rows_of
rows_length n words h = length-map (take n words) (row_of n) ∙ length-take-le n words h

-- The marks of a row are the bits of its word.
pub row_bit : (n i w : ℕ) → i < n → get_or (row_of n w) i false ≡ bit_at w i
unfolding row_of bit_at
row_bit zero i w h = absurd (omega arith)
row_bit (suc n) zero w h = ap (λ (x : ℕ). eqb (x % 2) 1) (sym (div-one w))
row_bit (suc n) (suc i) w h =
    row_bit n i (w / 2) (omega arith) ∙ ap (λ (x : ℕ). eqb (x % 2) 1) (shr-shr w 1 i ∙ ap (λ (x : ℕ). w / 2 ^ x) (one-add i))

-- A row has no mark past its end.
pub row_past : (n i w : ℕ) → n ≤ i → get_or (row_of n w) i false ≡ false
row_past n i w h = get_or-eq_default (row_of n w) false (subst (λ (x : ℕ). x ≤ i) (sym (row_length n w)) h)

-- The rows of a table are the first words.
pub row_at : (n i : ℕ) (words : List ℕ) → i < n → n ≤ length words → get_or (rows_of n words) i [] ≡ row_of n (get_or words i 0)
unfolding rows_of
row_at n i words h k =
    any_default (map (row_of n) (take n words)) i [] (row_of n 0) (subst (λ (x : ℕ). i < x) (sym (rows_length n words k)) h)
    ∙ get_or-map (row_of n) (take n words) i 0 ∙ ap (row_of n) (get_or-take n words i 0 h)

-- The marks of a table are the bits of its words.
pub mark_bit : (n i j : ℕ) (words : List ℕ) → i < n → j < n → n ≤ length words → mark (rows_of n words) i j ≡ bit_at (get_or words i 0) j
unfolding mark
mark_bit n i j words h k l = ap (λ (row : List Bool). get_or row j false) (row_at n i words h l) ∙ row_bit n j (get_or words i 0) k

-- A word that is doubled, with a bit added, is a row that begins with that mark.
pub row_more : (n w b : ℕ) → b ≤ 1 → row_of (suc n) (2 * w + b) ≡ eqb b 1 ∷ row_of n w
unfolding row_of
row_more n w b h =
    let e : (2 * w + b) % 2 ≡ b = omega arith in
    let f : (2 * w + b) / 2 ≡ w = omega arith in
    ap₂ (λ (x y : ℕ). eqb x 1 ∷ row_of n y) e f

-- A word that is doubled is a row that begins with no mark.
pub row_doubled : (n w : ℕ) → row_of (suc n) (2 * w) ≡ false ∷ row_of n w
row_doubled n w = ap (row_of (suc n)) (sym (add-zero (2 * w))) ∙ row_more n w 0 (omega arith)

-- A word of m bits, doubled, with a bit added, is one of m + 1 bits.
pub word_more : (m w b : ℕ) → w < 2 ^ m → b ≤ 1 → 2 * w + b < 2 ^ suc m
word_more m w b h k = omega (arith, pow-suc 2 m)

or_bit : (x y : ℕ) → x < 2 → y < 2 → eqb (max x y) 1 ≡ (eqb x 1 || eqb y 1)
or_bit zero zero h k = refl
or_bit zero (suc zero) h k = refl
or_bit zero (suc (suc y)) h k = absurd (omega arith)
or_bit (suc zero) zero h k = refl
or_bit (suc zero) (suc zero) h k = refl
or_bit (suc zero) (suc (suc y)) h k = absurd (omega arith)
or_bit (suc (suc x)) y h k = absurd (omega arith)

-- the lowest bit, and the others
or_lowest : (a b : ℕ) → eqb (bit_or a b % 2) 1 ≡ (eqb (a % 2) 1 || eqb (b % 2) 1)
or_lowest a b =
    let e : bit_or a b % 2 ≡ max (a % 2) (b % 2) = omega (arith, or_step a b) in
    ap (λ (x : ℕ). eqb x 1) e ∙ or_bit (a % 2) (b % 2) (omega arith) (omega arith)

or_rest : (a b : ℕ) → bit_or a b / 2 ≡ bit_or (a / 2) (b / 2)
or_rest a b = omega (arith, or_step a b)

-- The row of two words joined has the marks of either.
pub row_or : (n a b : ℕ) → row_of n (bit_or a b) ≡ or_row (row_of n a) (row_of n b)
unfolding row_of or_row
row_or zero a b = refl
row_or (suc n) a b = ap₂ {C = List Bool} (λ x y. x ∷ y) (or_lowest a b) (ap (row_of n) (or_rest a b) ∙ row_or n (a / 2) (b / 2))
