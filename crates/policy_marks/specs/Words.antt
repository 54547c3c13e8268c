-- Tables and rows of marks in words of 64 bits: the mark of image j is bit j, the lowest being bit 0.
use Rattle.std.specs.Prelude.{ℕ, zero, suc, ◌/◌, ◌%◌, ◌^◌, ◌≡◌, Bool, true, false, List, [], ◌∷◌, map, eqb, take}
use Rattle.policy_marks.specs.Pairs.{Pair, no_report_space, pairs_after, report_after}
use Rattle.policy_marks.specs.declared.Table.{Table}
use Rattle.answer.specs.declared.Answer.{Answer}

-- bit i of a word
unfoldable pub bit_at : ℕ → ℕ → Bool
bit_at w i = eqb (w / 2 ^ i % 2) 1

-- the first n bits of a word
unfoldable pub row_of : ℕ → ℕ → List Bool
row_of zero w = []
row_of (suc n) w = eqb (w % 2) 1 ∷ row_of n (w / 2)

-- the first n bits of the first n words
unfoldable pub rows_of : ℕ → List ℕ → List (List Bool)
rows_of n words = map (row_of n) (take n words)

-- the guards, and the rows of a table
unfoldable pub guards_in : Table → List Bool
guards_in t = row_of t.count t.guards

unfoldable pub rows_in : Table → List (List Bool)
rows_in t = rows_of t.count t.rows

-- the answer r of number n for these pairs: their number, and the buffer from `before` to `after`
pub record Reports (n : ℕ) (ps : List Pair) (before : List ℕ) (r : Answer) (after : List ℕ) : Type 0 where
  pub number : r.number ≡ n
  pub pairs : r.value ≡ pairs_after n ps
  pub bytes : after ≡ report_after n ps before

-- document 01's number for a report of these pairs in a buffer of that length
unfoldable pub report_number : ℕ → List Pair → ℕ
report_number size ps = elim (no_report_space size ps) [ true ↦ 20 | false ↦ 0 ]
