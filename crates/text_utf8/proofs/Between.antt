-- A byte below 80 stands between characters, never within one.
-- Assumes nothing.
use Prim.Native.Nat.{ℕ, ◌<◌}
use native.Mathlib.Omega.{arith}
use mathlib.Core.Path.{◌≡◌, refl, sym, subst, ◌∙◌}
use mathlib.Core.Bool.{Bool, true, false, ◌&&◌, true≢false, false≢true}
use mathlib.Core.List.{List, [], ◌∷◌, ◌++◌}
use lib.Dec.{leb}
use borrow.Author.Tests.{leb-true}
use Rattle.text_utf8.specs.Utf8.{Range, within, Row, table, Lead, follows, none, lead_in, lead, utf8_from, utf8}
use Rattle.text_utf8.proofs.Append.{utf8_append}
use Rattle.text_utf8.proofs.Ranges.{and_both, within_under, hit, skip, lead_1}
use Rattle.text_utf8.proofs.Steps.{utf8_follows, utf8_none, utf8_met, utf8_unmet}

-- the ranges start at 80 or later
abbrev pub high : List Range → Bool
high [] = true
high (r ∷ rs) = leb 0x80 r.low && high rs

abbrev high_rows : List Row → Bool
high_rows [] = true
high_rows (r ∷ t) = high r.rest && high_rows t

abbrev is_none : Lead → Bool
is_none (follows rs) = false
is_none none = true

follows_same : (rs qs : List Range) → follows rs ≡ follows qs → rs ≡ qs
follows_same rs qs e = cc

lead_in_high : (t : List Row) → high_rows t ≡ true → (b : ℕ) (rs : List Range) → lead_in t b ≡ follows rs → high rs ≡ true
unfolding lead_in
lead_in_high [] e b rs p = absurd (true≢false (λ i. is_none (p i)))
lead_in_high (r ∷ t) e b rs p =
    let both = and_both (high r.rest) (high_rows t) e in
    go (within r.first b) refl both.0 (lead_in_high t both.1 b rs)
  where
    go : (w : Bool) → within r.first b ≡ w → high r.rest ≡ true → (lead_in t b ≡ follows rs → high rs ≡ true) → high rs ≡ true
    go true q h ih = subst (λ (x : List Range). high x ≡ true) (follows_same r.rest rs (sym (hit r t b q) ∙ p)) h
    go false q h ih = ih (sym (skip r t b q) ∙ p)

-- every byte after a first byte is 80 or more
pub lead_high : (b : ℕ) (rs : List Range) → lead b ≡ follows rs → high rs ≡ true
unfolding lead table
lead_high b rs e = lead_in_high table refl b rs e

-- one byte more: the ranges that are left, whatever follows
pub record Next (rs : List Range) (b : ℕ) (s : List ℕ) : Type 0 where
  pub left : List Range
  pub above : high left ≡ true
  pub well : utf8_from left s ≡ true
  pub same : (q : List ℕ) → utf8_from rs (b ∷ q) ≡ utf8_from left q

-- The first byte of what is well-formed leaves ranges that start at 80 or later and say what may follow the byte.
pub next : (rs : List Range) (b : ℕ) (s : List ℕ) → high rs ≡ true → utf8_from rs (b ∷ s) ≡ true → Next rs b s
next [] b s h e = go (lead b) refl
  where
    go : (l : Lead) → lead b ≡ l → Next [] b s
    go (follows rs) p =
        record { left = rs; above = lead_high b rs p; well = sym (utf8_follows b s rs p) ∙ e; same = λ q. utf8_follows b q rs p }
    go none p = absurd (false≢true (sym (utf8_none b s p) ∙ e))
next (r ∷ rs) b s h e = go (within r b) refl
  where
    go : (w : Bool) → within r b ≡ w → Next (r ∷ rs) b s
    go true p =
        record { left = rs; above = (and_both (leb 0x80 r.low) (high rs) h).1; well = sym (utf8_met b s r rs p) ∙ e; same = λ q. utf8_met b q r rs p }
    go false p = absurd (false≢true (sym (utf8_unmet b s r rs p) ∙ e))

-- a byte below 80 is a character by itself
pub utf8_ascii : (b : ℕ) (s : List ℕ) → b < 0x80 → utf8 (b ∷ s) ≡ utf8 s
unfolding utf8
utf8_ascii b s h = utf8_follows b s [] (lead_1 b (omega arith))

-- A byte below 80 and a well-formed text after it are a well-formed text.
pub ascii_before : (b : ℕ) (s : List ℕ) → b < 0x80 → utf8 s ≡ true → utf8 (b ∷ s) ≡ true
ascii_before b s h e = utf8_ascii b s h ∙ e

-- A well-formed text that begins with a byte below 80 is well-formed without that byte.
pub ascii_after : (b : ℕ) (s : List ℕ) → b < 0x80 → utf8 (b ∷ s) ≡ true → utf8 s ≡ true
ascii_after b s h e = sym (utf8_ascii b s h) ∙ e

-- no character is unfinished before it
pub ascii_between : (rs : List Range) (b : ℕ) (s : List ℕ) → high rs ≡ true → b < 0x80 → utf8_from rs (b ∷ s) ≡ true
    → (rs ≡ []) × (utf8 s ≡ true)
unfolding utf8
ascii_between [] b s h l e = (refl, ascii_after b s l e)
ascii_between (r ∷ rs) b s h l e =
    let up = leb-true 0x80 r.low (and_both (leb 0x80 r.low) (high rs) h).0 in
    absurd (false≢true (sym (utf8_unmet b s r rs (within_under r b (omega arith))) ∙ e))

-- a well-formed text after another
pub utf8_both : (a b : List ℕ) → utf8 a ≡ true → utf8 b ≡ true → utf8 (a ++ b) ≡ true
utf8_both a b e f = utf8_append a b e ∙ f
