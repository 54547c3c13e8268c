-- The character that a text starts with, for the contracts of the functions inside the crate.
-- Assumes nothing.
use Rattle.std.specs.Prelude.{ℕ, suc, ◌<◌, Bool, true, false, cond, List, [], ◌∷◌, length}
use Rattle.laws.specs.Span.{Span}
use Rattle.text_utf8.specs.Utf8.{Range, within, follows, none, lead}

-- the text starts with bytes in these ranges, one after the other
unfoldable pub meets : List Range → List ℕ → Bool
meets [] s = true
meets (r ∷ rs) [] = false
meets (r ∷ rs) (b ∷ s) = elim (within r b) [ true ↦ meets rs s | false ↦ false ]

-- how many bytes the text's first character has: 1 to 4, and 0 where it is not well-formed
unfoldable pub char_len : List ℕ → ℕ
char_len [] = 0
char_len (b ∷ s) = elim (lead b) [ follows rs ↦ cond (meets rs s) (suc (length rs)) 0 | none ↦ 0 ]

-- the text's bytes from the place i up to j are all ASCII
abbrev pub Ascii : List ℕ → ℕ → ℕ → Type 0
Ascii s i j = Span (λ (b : ℕ). b < 0x80) s i j
