-- What a table is answered: its report, or that there is no space for it.
use Prim.Native.Nat.{ℕ, ◌*◌, ◌≤◌, ◌<◌}
use mathlib.Core.Path.{◌≡◌, refl, sym, ap, subst}
use mathlib.Core.List.{List, ◌++◌}
use lib.ListN.{length, drop}
use borrow.Author.Tests.{lt-ltb, le-ltb}
use Rattle.policy_marks.specs.Marks.{closed}
use Rattle.policy_marks.specs.Pairs.{Pair, pairs_in, pairs_of, report_of, no_report_space, pairs_after, report_after}
use Rattle.policy_marks.specs.Words.{rows_of, guards_in, rows_in, report_number, Reports}
use Rattle.policy_marks.specs.declared.Table.{Table}
use Rattle.answer.specs.declared.Answer.{Answer}
use Rattle.policy_pairs.proofs.Pairs.{reported_few}
use Rattle.policy_marks.proofs.Words.{row_length}

-- no space
abbrev pub refusal : Answer
refusal = record { number = 20; value = 0 }

-- a table with other rows
abbrev pub with_rows : Table → List ℕ → Table
with_rows t rows = record { count = t.count; guards = t.guards; rows = rows }

-- The pairs of a table are those of its closure.
pub pairs_closed : (t : Table) (rows : List ℕ) → rows_of t.count rows ≡ closed (rows_of t.count t.rows)
    → pairs_in (guards_in (with_rows t rows)) (rows_in (with_rows t rows)) ≡ pairs_of (guards_in t) (rows_in t)
unfolding pairs_of guards_in rows_in
pairs_closed t rows e = ap (pairs_in (guards_in t)) e

-- A table of 64 images has 64 times 63 pairs at most.
pub table_few : (t : Table) → t.count ≤ 64 → length (pairs_in (guards_in t) (rows_in t)) ≤ 64 * 63
unfolding guards_in
table_few t h = reported_few (guards_in t) (rows_in t) (subst (λ (n : ℕ). n ≤ 64) (sym (row_length t.count t.guards)) h)

module _ (ps : List Pair) (before : List ℕ) where
  number_refused : length before < 2 * length ps → report_number (length before) ps ≡ 20
  unfolding report_number no_report_space
  number_refused h = rw (lt-ltb (length before) (2 * length ps) h, report_number)

  number_told : 2 * length ps ≤ length before → report_number (length before) ps ≡ 0
  unfolding report_number no_report_space
  number_told h = rw (le-ltb (length before) (2 * length ps) h, report_number)

  -- There is no space for the report.
  pub refused : length before < 2 * length ps → Reports (report_number (length before) ps) ps before refusal before
  unfolding pairs_after report_after
  refused h = rw (number_refused h) (record { number = refl; pairs = refl; bytes = refl })

  -- The report is written, and the pairs are counted.
  pub told : (r : Answer) (after : List ℕ) → 2 * length ps ≤ length before → r.number ≡ 0 → r.value ≡ length ps
      → after ≡ report_of ps ++ drop (2 * length ps) before → Reports (report_number (length before) ps) ps before r after
  unfolding pairs_after report_after
  told r after h e f g = rw (number_told h) (record { number = e; pairs = f; bytes = g })
