-- Bytes of a text that neither end a string nor begin an escape.
use Rattle.std.specs.Prelude.{ℕ, ◌<◌, ◌≡◌, List, ◌⊎◌, length, get_or}
use Rattle.laws.specs.Span.{Span}

-- no byte of the text from position i up to j is a quotation mark or a backslash
abbrev pub Unmarked : List ℕ → ℕ → ℕ → Type 0
Unmarked s i j = Span (λ (b : ℕ). (b ≡ 0x22 → ⊥) × (b ≡ 0x5C → ⊥)) s i j

-- the same, and it goes on as far as it can: the text ends at j, or a quotation mark or a backslash stands there
pub record UnmarkedRun (s : List ℕ) (i j : ℕ) : Type 0 where
  pub run : Unmarked s i j
  pub stops : j < length s → (get_or s j 0 ≡ 0x22) ⊎ (get_or s j 0 ≡ 0x5C)
