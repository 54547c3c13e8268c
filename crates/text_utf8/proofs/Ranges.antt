-- Ranges and the table of first bytes: which line of the grammar a byte picks, by its bounds.
-- Assumes nothing.
use Prim.Native.Nat.{ℕ, suc, ◌≤◌, ◌<◌}
use native.Mathlib.Omega.{arith}
use mathlib.Core.Path.{◌≡◌, refl, ◌∙◌}
use mathlib.Core.Bool.{Bool, true, false, ◌&&◌, false≢true}
use mathlib.Core.List.{List, [], ◌∷◌, ◌++◌}
use lib.ListN.{take, drop}
use borrow.Author.Tests.{le-leb, lt-leb, leb-true}
use lib.Dec.{leb}
use Rattle.laws.proofs.Order.{below}
use Rattle.text_utf8.specs.Utf8.{Range, range, within, tail, Row, table, follows, none, lead_in, lead}

and_false : (x : Bool) → x && false ≡ false
and_false true = refl
and_false false = refl

-- Where the conjunction of two booleans is true, both are true.
pub and_both : (x y : Bool) → x && y ≡ true → (x ≡ true) × (y ≡ true)
and_both true y e = (refl, e)
and_both false y e = absurd (false≢true e)

-- A byte from the low bound to the high bound of a range is within it.
pub within_in : (l h b : ℕ) → l ≤ b → b ≤ h → within (range l h) b ≡ true
unfolding within
within_in l h b p q = simp (le-leb l b p, le-leb b h q)

-- A byte below the low bound of a range is not within it.
pub within_under : (r : Range) (b : ℕ) → b < r.low → within r b ≡ false
unfolding within
within_under r b p = simp (lt-leb r.low b p)

-- A byte above the high bound of a range is not within it.
pub within_over : (r : Range) (b : ℕ) → r.high < b → within r b ≡ false
unfolding within
within_over r b p = simp (lt-leb b r.high p, and_false)

-- the bounds of a byte that is within a range
pub within_bounds : (r : Range) (b : ℕ) → within r b ≡ true → (r.low ≤ b) × (b ≤ r.high)
unfolding within
within_bounds r b e =
    let p = and_both (leb r.low b) (leb b r.high) e in
    (leb-true r.low b p.0, leb-true b r.high p.1)

-- Where a byte is within the first byte's range of the first line, bytes in that line's other ranges come after it.
pub hit : (r : Row) (t : List Row) (b : ℕ) → within r.first b ≡ true → lead_in (r ∷ t) b ≡ follows r.rest
unfolding lead_in
hit r t b e = rw (e, lead_in)

-- Where a byte is not within the first byte's range of the first line, the other lines say what comes after it.
pub skip : (r : Row) (t : List Row) (b : ℕ) → within r.first b ≡ false → lead_in (r ∷ t) b ≡ lead_in t b
unfolding lead_in
skip r t b e = rw (e, lead_in)

-- the ranges of the lines end by h
abbrev end_by : ℕ → List Row → Bool
end_by h [] = true
end_by h (r ∷ t) = leb r.first.high h && end_by h t

-- the ranges of the lines start at l or later
abbrev start_from : ℕ → List Row → Bool
start_from l [] = true
start_from l (r ∷ t) = leb l r.first.low && start_from l t

-- a byte above the ranges of the first lines
past : (t u : List Row) (b h : ℕ) → end_by h t ≡ true → h < b → lead_in (t ++ u) b ≡ lead_in u b
past [] u b h e p = refl
past (r ∷ t) u b h e p =
    let both = and_both (leb r.first.high h) (end_by h t) e in
    let up : r.first.high ≤ h = leb-true r.first.high h both.0 in
    skip r (t ++ u) b (within_over r.first b (omega arith)) ∙ past t u b h both.1 p

-- a byte below the ranges of all
ahead : (t : List Row) (b l : ℕ) → start_from l t ≡ true → b < l → lead_in t b ≡ none
unfolding lead_in
ahead [] b l e p = refl
ahead (r ∷ t) b l e p =
    let both = and_both (leb l r.first.low) (start_from l t) e in
    let up : l ≤ r.first.low = leb-true l r.first.low both.0 in
    skip r t b (within_under r.first b (omega arith)) ∙ ahead t b l both.1 p

-- After a byte up to 7F comes no further byte of its character.
pub lead_1 : (b : ℕ) → b ≤ 0x7F → lead b ≡ follows []
unfolding lead table
lead_1 b h = hit _ _ b (within_in 0 0x7F b (omega arith) h)

-- After a byte from C2 to DF comes one tail byte.
pub lead_2 : (b : ℕ) → 0xC2 ≤ b → b ≤ 0xDF → lead b ≡ follows (tail ∷ [])
unfolding lead table
lead_2 b l h = past (take 1 table) (drop 1 table) b 0xC1 refl l ∙ hit _ _ b (within_in 0xC2 0xDF b l h)

-- After the byte E0 come a byte from A0 to BF and a tail byte.
pub lead_e0 : (b : ℕ) → b ≡ 0xE0 → lead b ≡ follows (range 0xA0 0xBF ∷ tail ∷ [])
unfolding lead table lead_in within
lead_e0 b e = rw e

-- After a byte from E1 to EC come two tail bytes.
pub lead_e1 : (b : ℕ) → 0xE1 ≤ b → b ≤ 0xEC → lead b ≡ follows (tail ∷ tail ∷ [])
unfolding lead table
lead_e1 b l h = past (take 3 table) (drop 3 table) b 0xE0 refl l ∙ hit _ _ b (within_in 0xE1 0xEC b l h)

-- After the byte ED come a byte from 80 to 9F and a tail byte.
pub lead_ed : (b : ℕ) → b ≡ 0xED → lead b ≡ follows (range 0x80 0x9F ∷ tail ∷ [])
unfolding lead table lead_in within
lead_ed b e = rw e

-- After the byte EE or EF come two tail bytes.
pub lead_ee : (b : ℕ) → 0xEE ≤ b → b ≤ 0xEF → lead b ≡ follows (tail ∷ tail ∷ [])
unfolding lead table
lead_ee b l h = past (take 5 table) (drop 5 table) b 0xED refl l ∙ hit _ _ b (within_in 0xEE 0xEF b l h)

-- After the byte F0 come a byte from 90 to BF and two tail bytes.
pub lead_f0 : (b : ℕ) → b ≡ 0xF0 → lead b ≡ follows (range 0x90 0xBF ∷ tail ∷ tail ∷ [])
unfolding lead table lead_in within
lead_f0 b e = rw e

-- After a byte from F1 to F3 come three tail bytes.
pub lead_f1 : (b : ℕ) → 0xF1 ≤ b → b ≤ 0xF3 → lead b ≡ follows (tail ∷ tail ∷ tail ∷ [])
unfolding lead table
lead_f1 b l h = past (take 7 table) (drop 7 table) b 0xF0 refl l ∙ hit _ _ b (within_in 0xF1 0xF3 b l h)

-- After the byte F4 come a byte from 80 to 8F and two tail bytes.
pub lead_f4 : (b : ℕ) → b ≡ 0xF4 → lead b ≡ follows (range 0x80 0x8F ∷ tail ∷ tail ∷ [])
unfolding lead table lead_in within
lead_f4 b e = rw e

-- any first byte of three bytes but the two that narrow the second
pub lead_3 : (b : ℕ) → 0xE0 ≤ b → b ≤ 0xEF → (b ≡ 0xE0 → ⊥) → (b ≡ 0xED → ⊥) → lead b ≡ follows (tail ∷ tail ∷ [])
lead_3 b l h p q = below b 0xED (λ g. lead_e1 b (omega arith) (omega arith)) (λ g. lead_ee b (omega arith) h)

-- the bytes that no character starts with
pub lead_80 : (b : ℕ) → 0x80 ≤ b → b < 0xC2 → lead b ≡ none
unfolding lead table
lead_80 b l h = past (take 1 table) (drop 1 table) b 0x7F refl l ∙ ahead (drop 1 table) b 0xC2 refl h

-- No character starts with a byte from F5 on.
pub lead_f5 : (b : ℕ) → 0xF5 ≤ b → lead b ≡ none
unfolding lead table
lead_f5 b l = past table [] b 0xF4 refl l ∙ ahead [] b (suc b) refl (omega arith)
