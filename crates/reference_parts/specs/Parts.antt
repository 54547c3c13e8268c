-- The parts of a reference are divided by `/` (document 01, "References, names and rules").
use Rattle.std.specs.Prelude.{ℕ, List, [], ◌∷◌, ◌++◌, Bool, true, false, ◌&&◌, eqb, leb, length, take}
use Rattle.text_chars.specs.Measure.{every, is_not, is_unmarked}

-- some `/` is there
unfoldable pub is_divided : List ℕ → Bool
is_divided [] = false
is_divided (b ∷ s) = elim (eqb b 0x2F) [ true ↦ true | false ↦ is_divided s ]

-- what is before the first `/`
unfoldable pub first_part : List ℕ → List ℕ
first_part [] = []
first_part (b ∷ s) = elim (eqb b 0x2F) [ true ↦ [] | false ↦ b ∷ first_part s ]

-- what is after it
unfoldable pub after_part : List ℕ → List ℕ
after_part [] = []
after_part (b ∷ s) = elim (eqb b 0x2F) [ true ↦ s | false ↦ after_part s ]

-- a byte more at the start of the first part
unfoldable pub longer : ℕ → List (List ℕ) → List (List ℕ)
longer b [] = []
longer b (p ∷ ps) = (b ∷ p) ∷ ps

-- all parts, of which there is one at least
unfoldable pub parts : List ℕ → List (List ℕ)
parts [] = [] ∷ []
parts (b ∷ s) = elim (eqb b 0x2F) [ true ↦ [] ∷ parts s | false ↦ longer b (parts s) ]

-- the list with these parts
unfoldable pub joined : List (List ℕ) → List ℕ
joined [] = []
joined (p ∷ []) = p
joined (p ∷ q ∷ ps) = p ++ 0x2F ∷ joined (q ∷ ps)

-- at least n bytes, of the first n of which none ends a string's content or a part, or begins an escape
unfoldable pub is_block : ℕ → List ℕ → Bool
is_block n s = leb n (length s) && (every is_unmarked (take n s) && every (is_not 0x2F) (take n s))
