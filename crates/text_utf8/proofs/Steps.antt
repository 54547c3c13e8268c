-- One step of `utf8_from`, `verdict_from` and `meets`: what a byte that is met, or a first byte, leaves to read.
-- Assumes nothing.
use Rattle.std.specs.Prelude.{Err}
use Prim.Native.Nat.{ℕ, suc}
use mathlib.Core.Path.{◌≡◌}
use mathlib.Core.Bool.{true, false}
use mathlib.Core.List.{List, [], ◌∷◌}
use Rattle.text_utf8.specs.Utf8.{Range, within, follows, none, lead, utf8_from, verdict_from}

module _ (b : ℕ) (s : List ℕ) where
  -- A text with a first byte is well-formed exactly where the rest is, with that byte's ranges still to come.
  pub utf8_follows : (rs : List Range) → lead b ≡ follows rs → utf8_from [] (b ∷ s) ≡ utf8_from rs s
  unfolding utf8_from
  utf8_follows rs e = rw (e, utf8_from)

  -- A text whose first byte is one that no character starts with is not well-formed.
  pub utf8_none : lead b ≡ none → utf8_from [] (b ∷ s) ≡ false
  unfolding utf8_from
  utf8_none e = rw (e, utf8_from)

  -- Where the next byte is within the first range to come, the rest of the text decides, with the other ranges to come.
  pub utf8_met : (r : Range) (rs : List Range) → within r b ≡ true → utf8_from (r ∷ rs) (b ∷ s) ≡ utf8_from rs s
  unfolding utf8_from
  utf8_met r rs e = rw (e, utf8_from)

  -- Where the next byte is not within the first range to come, the text is not well-formed.
  pub utf8_unmet : (r : Range) (rs : List Range) → within r b ≡ false → utf8_from (r ∷ rs) (b ∷ s) ≡ false
  unfolding utf8_from
  utf8_unmet r rs e = rw (e, utf8_from)

  module _ (start at : ℕ) where
    -- After a first byte the verdict is that on the rest, with its ranges to come and its offset as the character's.
    pub verdict_follows : (rs : List Range) → lead b ≡ follows rs
        → verdict_from start at [] (b ∷ s) ≡ verdict_from at (suc at) rs s
    unfolding verdict_from
    verdict_follows rs e = rw (e, verdict_from)

    -- At a byte that no character starts with, the verdict is that byte's offset.
    pub verdict_none : lead b ≡ none → verdict_from start at [] (b ∷ s) ≡ Err at
    unfolding verdict_from
    verdict_none e = rw (e, verdict_from)

    -- Where the next byte is within the first range to come, the verdict is that on the rest, with the other ranges to come.
    pub verdict_met : (r : Range) (rs : List Range) → within r b ≡ true
        → verdict_from start at (r ∷ rs) (b ∷ s) ≡ verdict_from start (suc at) rs s
    unfolding verdict_from
    verdict_met r rs e = rw (e, verdict_from)

    -- Where the next byte is not within the first range to come, the verdict is the unfinished character's offset.
    pub verdict_unmet : (r : Range) (rs : List Range) → within r b ≡ false
        → verdict_from start at (r ∷ rs) (b ∷ s) ≡ Err start
    unfolding verdict_from
    verdict_unmet r rs e = rw (e, verdict_from)
