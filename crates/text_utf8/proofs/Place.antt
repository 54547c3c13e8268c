-- What the verdict says: `WellFormed` of a well-formed text, and else the length of its longest well-formed start.
-- Assumes nothing.
use Rattle.std.specs.Prelude.{Result, Ok, Err}
use Prim.Native.Nat.{ℕ, zero, suc, ◌+◌, ◌<◌}
use native.Mathlib.Omega.{arith}
use mathlib.Core.Path.{◌≡◌, refl, sym, ap, ◌∙◌}
use mathlib.Core.Logic.{◌↔◌}
use mathlib.Core.Bool.{Bool, true, false, true≢false, false≢true}
use mathlib.Core.List.{List, [], ◌∷◌}
use lib.ListN.{length, take}
use Rattle.text_utf8.specs.Utf8.{Range, within, Lead, follows, none, lead, utf8_from, utf8, verdict_from, verdict}
use Rattle.text_utf8.proofs.Steps.{utf8_follows, utf8_none, utf8_met, utf8_unmet, verdict_follows, verdict_none, verdict_met, verdict_unmet}

abbrev good : Result (Unit {0}) ℕ → Bool
good (Ok tt) = true
good (Err k) = false

-- with the place taken away, the verdict is `utf8_from`
good_from : (start at : ℕ) (rs : List Range) (s : List ℕ) → good (verdict_from start at rs s) ≡ utf8_from rs s
unfolding utf8_from verdict_from
good_from start at [] [] = refl
good_from start at (r ∷ rs) [] = refl
good_from start at [] (b ∷ s) = go (lead b) refl (λ rs. good_from at (suc at) rs s)
  where
    go : (l : Lead)
        → lead b ≡ l
        → ((rs : List Range) → good (verdict_from at (suc at) rs s) ≡ utf8_from rs s)
        → good (verdict_from start at [] (b ∷ s)) ≡ utf8_from [] (b ∷ s)
    go (follows rs) p ih = ap good (verdict_follows b s start at rs p) ∙ ih rs ∙ sym (utf8_follows b s rs p)
    go none p ih = ap good (verdict_none b s start at p) ∙ sym (utf8_none b s p)
good_from start at (r ∷ rs) (b ∷ s) = go (within r b) refl (good_from start (suc at) rs s)
  where
    go : (w : Bool)
        → within r b ≡ w
        → good (verdict_from start (suc at) rs s) ≡ utf8_from rs s
        → good (verdict_from start at (r ∷ rs) (b ∷ s)) ≡ utf8_from (r ∷ rs) (b ∷ s)
    go true p ih = ap good (verdict_met b s start at r rs p) ∙ ih ∙ sym (utf8_met b s r rs p)
    go false p ih = ap good (verdict_unmet b s start at r rs p) ∙ sym (utf8_unmet b s r rs p)

well : (v : Result (Unit {0}) ℕ) → good v ≡ true → v ≡ (Ok tt)
well (Ok tt) e = refl
well (Err k) e = absurd (false≢true e)

-- the verdict is `WellFormed` exactly of a well-formed text
pub verdict_well_formed : (s : List ℕ) → verdict s ≡ (Ok tt) ↔ utf8 s ≡ true
unfolding verdict utf8
verdict_well_formed s =
    (λ e. sym (good_from 0 0 [] s) ∙ ap good e, λ e. well (verdict_from 0 0 [] s) (good_from 0 0 [] s ∙ e))

-- where a verdict points: at the unfinished character, where no start of the text finishes it well; or j bytes on,
-- where the longest well-formed start ends
data Points (start at : ℕ) (rs : List Range) (s : List ℕ) (k : ℕ) : Type 0 where
  back : k ≡ start → ((i : ℕ) → utf8_from rs (take i s) ≡ false) → Points start at rs s k
  ahead : (j : ℕ) → k ≡ at + j → j < length s → utf8_from rs (take j s) ≡ true
      → ((i : ℕ) → j < i → utf8_from rs (take i s) ≡ false) → Points start at rs s k

bad_inj : (j k : ℕ) → ◌≡◌ {A = Result (Unit {0}) ℕ} (Err j) (Err k) → k ≡ j
bad_inj j k e = cc

not_bad : (k : ℕ) → ◌≡◌ {A = Result (Unit {0}) ℕ} (Ok tt) (Err k) → ⊥
not_bad k e = true≢false (ap good e)

never_empty : (r : Range) (rs : List Range) (i : ℕ) → utf8_from (r ∷ rs) (take i []) ≡ false
unfolding utf8_from
never_empty r rs zero = refl
never_empty r rs (suc i) = refl

-- a first byte that no character starts with: the longest well-formed start is empty
points_none : (start at : ℕ) (b : ℕ) (s : List ℕ) (k : ℕ) → lead b ≡ none → k ≡ at → Points start at [] (b ∷ s) k
unfolding utf8_from
points_none start at b s k p e = ahead 0 (omega arith) (omega arith) refl longer
  where
    longer : (i : ℕ) → 0 < i → utf8_from [] (take i (b ∷ s)) ≡ false
    longer zero h = absurd (omega arith)
    longer (suc i) h = utf8_none b (take i s) p

-- a byte that is not met: nothing finishes the character
points_unmet : (start at : ℕ) (r : Range) (rs : List Range) (b : ℕ) (s : List ℕ) (k : ℕ)
    → within r b ≡ false → k ≡ start → Points start at (r ∷ rs) (b ∷ s) k
unfolding utf8_from
points_unmet start at r rs b s k p e = back e stays
  where
    stays : (i : ℕ) → utf8_from (r ∷ rs) (take i (b ∷ s)) ≡ false
    stays zero = refl
    stays (suc i) = utf8_unmet b (take i s) r rs p

-- past a first byte, its character is the unfinished one
points_follows : (start at : ℕ) (rs : List Range) (b : ℕ) (s : List ℕ) (k : ℕ)
    → lead b ≡ follows rs → Points at (suc at) rs s k → Points start at [] (b ∷ s) k
unfolding utf8_from
points_follows start at rs b s k p (back e ill) = ahead 0 (omega arith) (omega arith) refl longer
  where
    longer : (i : ℕ) → 0 < i → utf8_from [] (take i (b ∷ s)) ≡ false
    longer zero h = absurd (omega arith)
    longer (suc i) h = utf8_follows b (take i s) rs p ∙ ill i
points_follows start at rs b s k p (ahead j e l ok ill) =
    ahead (suc j) (omega arith) (omega arith) (utf8_follows b (take j s) rs p ∙ ok) longer
  where
    longer : (i : ℕ) → suc j < i → utf8_from [] (take i (b ∷ s)) ≡ false
    longer zero h = absurd (omega arith)
    longer (suc i) h = utf8_follows b (take i s) rs p ∙ ill i (omega arith)

points_met : (start at : ℕ) (r : Range) (rs : List Range) (b : ℕ) (s : List ℕ) (k : ℕ)
    → within r b ≡ true → Points start (suc at) rs s k → Points start at (r ∷ rs) (b ∷ s) k
unfolding utf8_from
points_met start at r rs b s k p (back e ill) = back e stays
  where
    stays : (i : ℕ) → utf8_from (r ∷ rs) (take i (b ∷ s)) ≡ false
    stays zero = refl
    stays (suc i) = utf8_met b (take i s) r rs p ∙ ill i
points_met start at r rs b s k p (ahead j e l ok ill) =
    ahead (suc j) (omega arith) (omega arith) (utf8_met b (take j s) r rs p ∙ ok) longer
  where
    longer : (i : ℕ) → suc j < i → utf8_from (r ∷ rs) (take i (b ∷ s)) ≡ false
    longer zero h = absurd (omega arith)
    longer (suc i) h = utf8_met b (take i s) r rs p ∙ ill i (omega arith)

points : (start at : ℕ) (rs : List Range) (s : List ℕ) (k : ℕ) → verdict_from start at rs s ≡ Err k → Points start at rs s k
unfolding verdict_from
points start at [] [] k e = absurd (not_bad k e)
points start at (r ∷ rs) [] k e = back (bad_inj start k e) (never_empty r rs)
points start at [] (b ∷ s) k e = go (lead b) refl (λ rs. points at (suc at) rs s k)
  where
    go : (l : Lead) → lead b ≡ l
        → ((rs : List Range) → verdict_from at (suc at) rs s ≡ Err k → Points at (suc at) rs s k)
        → Points start at [] (b ∷ s) k
    go (follows rs) p ih = points_follows start at rs b s k p (ih rs (sym (verdict_follows b s start at rs p) ∙ e))
    go none p ih = points_none start at b s k p (bad_inj at k (sym (verdict_none b s start at p) ∙ e))
points start at (r ∷ rs) (b ∷ s) k e = go (within r b) refl (points start (suc at) rs s k)
  where
    go : (w : Bool) → within r b ≡ w
        → (verdict_from start (suc at) rs s ≡ Err k → Points start (suc at) rs s k)
        → Points start at (r ∷ rs) (b ∷ s) k
    go true p ih = points_met start at r rs b s k p (ih (sym (verdict_met b s start at r rs p) ∙ e))
    go false p ih = points_unmet start at r rs b s k p (bad_inj start k (sym (verdict_unmet b s start at r rs p) ∙ e))

-- k is the length of the longest well-formed start of the text, which is not the whole of it
pub record Longest (s : List ℕ) (k : ℕ) : Type 0 where
  pub inside : k < length s
  pub well : utf8 (take k s) ≡ true
  pub longer : (j : ℕ) → k < j → utf8 (take j s) ≡ false

-- Where the verdict is a place, it is the length of the longest well-formed prefix, which is not the whole text.
pub verdict_bad : (s : List ℕ) (k : ℕ) → verdict s ≡ Err k → Longest s k
unfolding verdict utf8 utf8_from
verdict_bad s k e = go (points 0 0 [] s k e)
  where
    go : Points 0 0 [] s k → Longest s k
    go (back f ill) = absurd (true≢false (ill 0))
    go (ahead j f l ok ill) =
        let same : k ≡ j = omega arith in
        record { inside = omega arith; well = rw same ok; longer = λ i h. ill i (omega arith) }
