-- The lines that `roomreport` reads (document 01, "On the bench"): "lines, each ended by byte 0A or the end of input (after a last 0A there
-- is no further line): Image ID, the first space, manifest. A line over 16,600 bytes is answered 1; one with no space has an empty manifest."
use Rattle.std.specs.Prelude.{ℕ, Bool, true, false, ◌||◌, List, [], ◌∷◌, eqb}

-- there is an x
unfoldable pub has : ℕ → List ℕ → Bool
has x [] = false
has x (b ∷ s) = eqb b x || has x s

-- the bytes before the first x, all where there is none
unfoldable pub before : ℕ → List ℕ → List ℕ
before x [] = []
before x (b ∷ s) = elim (eqb b x) [ true ↦ [] | false ↦ b ∷ before x s ]

-- the bytes after the first x, none where there is none
unfoldable pub after : ℕ → List ℕ → List ℕ
after x [] = []
after x (b ∷ s) = elim (eqb b x) [ true ↦ s | false ↦ after x s ]

-- a byte put before the first line
unfoldable pub prepend : ℕ → List (List ℕ) → List (List ℕ)
prepend b [] = (b ∷ []) ∷ []
prepend b (l ∷ ls) = (b ∷ l) ∷ ls

-- the lines of an input; an empty input has none
unfoldable pub lines_of : List ℕ → List (List ℕ)
lines_of [] = []
lines_of (b ∷ s) = elim (eqb b 0x0A) [ true ↦ [] ∷ lines_of s | false ↦ prepend b (lines_of s) ]

abbrev pub most_line : ℕ
most_line = 16600

-- up to the first space, and after it
unfoldable pub id_part : List ℕ → List ℕ
id_part line = before 0x20 line

unfoldable pub manifest_part : List ℕ → List ℕ
manifest_part line = after 0x20 line
