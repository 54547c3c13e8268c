-- Well-formed UTF-8, by the byte ranges of RFC 3629, section 4. A text is the list of its bytes.
-- Assumes nothing.
use Rattle.std.specs.Prelude.{ℕ, suc, Bool, true, false, ◌&&◌, List, [], ◌∷◌, leb, Result, Ok, Err}

-- the bytes from low to high, both among them
pub record Range : Type 0 where
  pub low : ℕ
  pub high : ℕ

abbrev pub range : ℕ → ℕ → Range
range l h = record { low = l; high = h }

unfoldable pub within : Range → ℕ → Bool
within r b = leb r.low b && leb b r.high

-- UTF8-tail
abbrev pub tail : Range
tail = range 0x80 0xBF

-- a line of the grammar: the range of a first byte, and the ranges of the bytes after it
pub record Row : Type 0 where
  pub first : Range
  pub rest : List Range

abbrev pub row : Range → List Range → Row
row f r = record { first = f; rest = r }

-- UTF8-1, UTF8-2, the four lines of UTF8-3 and the three of UTF8-4
unfoldable pub table : List Row
table =
    row (range 0x00 0x7F) []
    ∷ row (range 0xC2 0xDF) (tail ∷ [])
    ∷ row (range 0xE0 0xE0) (range 0xA0 0xBF ∷ tail ∷ [])
    ∷ row (range 0xE1 0xEC) (tail ∷ tail ∷ [])
    ∷ row (range 0xED 0xED) (range 0x80 0x9F ∷ tail ∷ [])
    ∷ row (range 0xEE 0xEF) (tail ∷ tail ∷ [])
    ∷ row (range 0xF0 0xF0) (range 0x90 0xBF ∷ tail ∷ tail ∷ [])
    ∷ row (range 0xF1 0xF3) (tail ∷ tail ∷ tail ∷ [])
    ∷ row (range 0xF4 0xF4) (range 0x80 0x8F ∷ tail ∷ tail ∷ [])
    ∷ []

-- what may come after a first byte; `none` after a byte that is no first byte
pub data Lead : Type 0 where
  follows : List Range → Lead
  none : Lead

unfoldable pub lead_in : List Row → ℕ → Lead
lead_in [] b = none
lead_in (r ∷ t) b = elim (within r.first b) [ true ↦ follows r.rest | false ↦ lead_in t b ]

unfoldable pub lead : ℕ → Lead
lead b = lead_in table b

-- a text with the character before it unfinished: its bytes still to come are in these ranges
unfoldable pub utf8_from : List Range → List ℕ → Bool
utf8_from [] [] = true
utf8_from (r ∷ rs) [] = false
utf8_from [] (b ∷ s) = elim (lead b) [ follows rs ↦ utf8_from rs s | none ↦ false ]
utf8_from (r ∷ rs) (b ∷ s) = elim (within r b) [ true ↦ utf8_from rs s | false ↦ false ]

-- the text is well-formed
unfoldable pub utf8 : List ℕ → Bool
utf8 s = utf8_from [] s

-- the same with the place of the first character that is not well-formed: start is the offset of the unfinished
-- character's first byte, and at that of the text's
unfoldable pub verdict_from : ℕ → ℕ → List Range → List ℕ → Result (Unit {0}) ℕ
verdict_from start at [] [] = (Ok tt)
verdict_from start at (r ∷ rs) [] = Err start
verdict_from start at [] (b ∷ s) = elim (lead b) [ follows rs ↦ verdict_from at (suc at) rs s | none ↦ Err at ]
verdict_from start at (r ∷ rs) (b ∷ s) = elim (within r b) [ true ↦ verdict_from start (suc at) rs s | false ↦ Err start ]

unfoldable pub verdict : List ℕ → Result (Unit {0}) ℕ
verdict s = verdict_from 0 0 [] s
