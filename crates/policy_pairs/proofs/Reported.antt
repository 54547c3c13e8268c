-- Which pairs of a table in words are reported, by its bits.
use Prim.Native.Nat.{ℕ, ◌≤◌, ◌<◌}
use mathlib.Core.Path.{◌≡◌, sym, ap, ◌∙◌}
use mathlib.Core.List.{List}
use mathlib.Core.Bool.{Bool, true, false, not, and-false}
use native.Mathlib.Omega.{arith}
use mir.Val.{Val}
use denote.Laws.{Is}
use denote.Struct.Declared.{row}
use lib.ListN.{length, get_or}
use borrow.Author.Tests.{eq-eqb, ne_eqb}
use Rattle.policy_marks.specs.Pairs.{Pair, pairs_with, pairs_from, pairs_where, pairs_in, is_reported}
use Rattle.policy_marks.specs.Words.{bit_at, row_of, rows_of, guards_in, rows_in}
use Rattle.policy_marks.specs.declared.Table.{Table}
use Rattle.policy_marks.specs.contracts.Table.{the_type}
use Rattle.policy_marks.proofs.Words.{row_length, row_bit, mark_bit}

-- A table of at most 64 images has a row for each: what owning it, as a parameter `t`, tells.
pub rows_fit : (t : Table) {vs : List Val} → Is (row the_type) t vs → t.count ≤ 64 → t.count ≤ length t.rows
rows_fit t g h = let e : length t.rows ≡ 64 = g.1.1.1.1.0.1.0.1 in omega arith

-- a pair of a table is reported
abbrev pub reported : Table → ℕ → ℕ → Bool
reported t = is_reported (guards_in t) (rows_in t)

-- the reported pairs of g with the first o images
abbrev pub row_pairs : Table → ℕ → ℕ → List Pair
row_pairs t g o = pairs_with (reported t) g 0 o

-- the reported pairs of the first g images
abbrev pub table_pairs : Table → ℕ → List Pair
table_pairs t g = pairs_from (reported t) t.count 0 g

-- The pairs of all images are those of the table.
pub all_pairs : (t : Table) (g : ℕ) → g ≡ t.count → table_pairs t g ≡ pairs_in (guards_in t) (rows_in t)
unfolding pairs_in pairs_where guards_in
all_pairs t g e = ap (table_pairs t) e ∙ ap (λ (n : ℕ). pairs_from (reported t) n 0 n) (sym (row_length t.count t.guards))

module _ (n g guards : ℕ) (rows : List ℕ) (h : g < n) (o : ℕ) where
  -- An image that is no guard is reported with none.
  pub no_guard : bit_at guards g ≡ false → is_reported (row_of n guards) (rows_of n rows) g o ≡ false
  unfolding is_reported
  no_guard e = rw (row_bit n g guards h ∙ e)

  -- An image is not reported with itself.
  pub with_itself : g ≡ o → is_reported (row_of n guards) (rows_of n rows) g o ≡ false
  unfolding is_reported
  with_itself e = rw (eq-eqb g o e) (and-false (get_or (row_of n guards) g false))

  -- A guard is reported with another image exactly if it has no mark for it.
  pub with_other : bit_at guards g ≡ true → (g ≡ o → ⊥) → o < n → n ≤ length rows
      → is_reported (row_of n guards) (rows_of n rows) g o ≡ not (bit_at (get_or rows g 0) o)
  unfolding is_reported
  with_other e d k fits = rw (mark_bit n g o rows h k fits, row_bit n g guards h ∙ e, ne_eqb g o d)
