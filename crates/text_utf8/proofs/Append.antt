-- A well-formed text before another changes nothing for the other.
-- Assumes nothing.
use Prim.Native.Nat.{ℕ}
use mathlib.Core.Path.{◌≡◌, refl, sym, ◌∙◌}
use mathlib.Core.Bool.{Bool, true, false, false≢true}
use mathlib.Core.List.{List, [], ◌∷◌, ◌++◌}
use Rattle.text_utf8.specs.Utf8.{Range, within, Lead, follows, none, lead, utf8_from, utf8}
use Rattle.text_utf8.proofs.Steps.{utf8_follows, utf8_none, utf8_met, utf8_unmet}

-- Where `a` is well-formed after an unfinished character, `a` with `b` after it is so exactly where `b` is well-formed.
pub from_append : (rs : List Range) (a b : List ℕ) → utf8_from rs a ≡ true → utf8_from rs (a ++ b) ≡ utf8_from [] b
unfolding utf8_from
from_append [] [] b e = refl
from_append (r ∷ rs) [] b e = absurd (false≢true e)
from_append [] (x ∷ a) b e = go (lead x) refl (λ rs. from_append rs a b)
  where
    go : (l : Lead)
        → lead x ≡ l
        → ((rs : List Range) → utf8_from rs a ≡ true → utf8_from rs (a ++ b) ≡ utf8_from [] b)
        → utf8_from [] (x ∷ a ++ b) ≡ utf8_from [] b
    go (follows rs) p ih = utf8_follows x (a ++ b) rs p ∙ ih rs (sym (utf8_follows x a rs p) ∙ e)
    go none p ih = absurd (false≢true (sym (utf8_none x a p) ∙ e))
from_append (r ∷ rs) (x ∷ a) b e = go (within r x) refl (from_append rs a b)
  where
    go : (w : Bool)
        → within r x ≡ w
        → (utf8_from rs a ≡ true → utf8_from rs (a ++ b) ≡ utf8_from [] b)
        → utf8_from (r ∷ rs) (x ∷ a ++ b) ≡ utf8_from [] b
    go true p ih = utf8_met x (a ++ b) r rs p ∙ ih (sym (utf8_met x a r rs p) ∙ e)
    go false p ih = absurd (false≢true (sym (utf8_unmet x a r rs p) ∙ e))

-- what comes after a well-formed text decides
pub utf8_append : (a b : List ℕ) → utf8 a ≡ true → utf8 (a ++ b) ≡ utf8 b
unfolding utf8
utf8_append a b e = from_append [] a b e
