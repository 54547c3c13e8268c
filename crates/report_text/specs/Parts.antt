-- A line divided at its first space; and an input that comes in parts: what is kept of a line of which the end has not come.
use Rattle.std.specs.Prelude.{ℕ, ◌-◌, ◌+◌, ◌≤◌, ◌≡◌, true, false, List, [], ◌∷◌, ◌++◌, eqb, length, take, drop}
use Rattle.report_text.specs.Lines.{before, after, has, most_line, id_part, manifest_part}
use Rattle.report_text.specs.declared.Divided.{Divided}
use Rattle.report_text.specs.declared.Taken.{Taken}

-- a line is divided so
pub record Divides (line : List ℕ) (r : Divided) : Type 0 where
  pub end_within : r.end ≤ length line
  pub start_within : r.start ≤ length line
  pub id : take r.end line ≡ id_part line
  pub manifest : drop r.start line ≡ manifest_part line

-- as much of a line as is enough to answer it: one byte more than it may have
abbrev pub cut : List ℕ → List ℕ
cut line = take (most_line + 1) line

-- of the line whose start is the first n bytes of `kept` and goes on with `more`: as much as `kept` has space for
unfoldable pub line_kept : List ℕ → ℕ → List ℕ → List ℕ
line_kept kept n more = take (length kept) (take n kept ++ more)

-- that at the start of `kept`; the bytes after it stay
unfoldable pub kept_bytes : List ℕ → ℕ → List ℕ → List ℕ
kept_bytes kept n more = line_kept kept n more ++ drop (length (line_kept kept n more)) kept

-- what is taken of a part from `at` on: the bytes before the first 0A, and that byte, which is not kept
pub record Takes (kept : List ℕ) (n : ℕ) (part : List ℕ) (at : ℕ) (r : Taken) (kept' : List ℕ) : Type 0 where
  pub place : r.at ≡ length part - length (after 0x0A (drop at part))
  pub size : r.length ≡ length (line_kept kept n (before 0x0A (drop at part)))
  pub ended : r.ended ≡ has 0x0A (drop at part)
  pub bytes : kept' ≡ kept_bytes kept n (before 0x0A (drop at part))

-- the lines that end in a part, where `l` has come of the first one before; and what has come of the line that is open after it
unfoldable pub ended_in : List ℕ → List ℕ → List (List ℕ)
ended_in l [] = []
ended_in l (b ∷ s) = elim (eqb b 0x0A) [ true ↦ l ∷ ended_in [] s | false ↦ ended_in (l ++ (b ∷ [])) s ]

unfoldable pub open_after : List ℕ → List ℕ → List ℕ
open_after l [] = l
open_after l (b ∷ s) = elim (eqb b 0x0A) [ true ↦ open_after [] s | false ↦ open_after (l ++ (b ∷ [])) s ]

-- the last line: what has come of it when the input ends, where that is not empty
unfoldable pub closing : List ℕ → List (List ℕ)
closing [] = []
closing (b ∷ l) = (b ∷ l) ∷ []
