-- What judge answers: of bytes that are no store, and of the images of a store.
use Rattle.std.specs.Prelude.{Some}
use Prim.Native.Nat.{ℕ, ◌≤◌, ◌<◌}
use mathlib.Core.Path.{◌≡◌, sym, ap, ap₂, ◌∙◌, subst₂}
use mathlib.Core.Bool.{true, false}
use mathlib.Core.List.{List, [], ◌∷◌}
use borrow.Author.Tests.{lt-leb, ne_eqb}
use lib.Dec.{eqb}
use lib.ListN.{length, take, get_or}
use Rattle.laws.proofs.Order.{by_test}
use Rattle.text.specs.Question.{lowest}
use Rattle.manifest.proofs.Asking.{nothing_asked, asked_first, asked_next, asked_none}
use Rattle.policy_marks.specs.Pairs.{Pair, pairs_of, no_report_space, pairs_after, report_after}
use Rattle.policy_marks.specs.Words.{guards_in, rows_in, report_number, Reports}
use Rattle.answer.specs.declared.Answer.{Answer}
use Rattle.policy_marks.specs.declared.Table.{Table}
use Rattle.store_record.specs.Image.{Image}
use Rattle.store_record.specs.Store.{most_images, read_records}
use Rattle.store_open.specs.Held.{held, is_broken}
use Rattle.store_open.proofs.Holding.{held_in_use, broken_in_use}
use Rattle.policy_rows.specs.Accepting.{guards, marks}
use Rattle.policy.specs.Pairs.{pairs}
use Rattle.policy.specs.Judge.{judge_questions, judge_number, held_pairs}
use Rattle.policy.proofs.Admitting.{held_pairs_are}

module _ {ps : List Pair} {before : List ℕ} {r : Answer} {after : List ℕ} {m n : ℕ} where
  -- A refusal tells its number and no pairs, and leaves the buffer.
  pub refused_reports : m ≡ n → (m ≡ 0 → ⊥) → (r.number ≡ m) × (r.value ≡ 0) → after ≡ before → Reports n ps before r after
  unfolding pairs_after report_after
  refused_reports e h k f =
      let q : eqb n 0 ≡ false = ne_eqb n 0 (λ z. h (e ∙ z)) in
      record { number = k.0 ∙ e; pairs = rw (q, pairs_after) k.1; bytes = rw (q, report_after) f }

-- The pairs of a table that has the guards and the marks of some images are theirs.
pub table_pairs : (t : Table) (xs : List Image) → guards_in t ≡ guards xs → rows_in t ≡ marks xs → pairs_of (guards_in t) (rows_in t) ≡ pairs xs
unfolding pairs
table_pairs t xs e f = ap₂ pairs_of e f

-- An answer may be told of the same pairs in another way.
pub reports_as : {m n : ℕ} {ps qs : List Pair} {before : List ℕ} {r : Answer} {after : List ℕ} → m ≡ n → ps ≡ qs → Reports m ps before r after
    → Reports n qs before r after
reports_as {before} {r} {after} e f k = subst₂ (λ (n : ℕ) (ps : List Pair). Reports n ps before r after) e f k

space_asked : (size : ℕ) (ps : List Pair) → lowest (record { number = 20; applies = no_report_space size ps } ∷ []) ≡ report_number size ps
unfolding report_number
space_asked size ps =
    by_test (no_report_space size ps)
    (λ t. asked_first _ _ t ∙ sym (rw (t, report_number)))
    (λ f. asked_none _ _ f nothing_asked ∙ sym (rw (f, report_number)))

module _ (buffer : List ℕ) (used : ℕ) where
  -- Nothing is held where more bytes are in use than there are.
  pub judge_past : (size : ℕ) → length buffer < used → judge_number buffer used size ≡ 11
  unfolding judge_number judge_questions held is_broken
  judge_past size h = asked_first _ _ (rw (lt-leb used (length buffer) h, held))

  module _ (h : used ≤ length buffer) where
    abbrev in_use : List ℕ
    in_use = take used buffer

    -- The pairs are those of the images that are read in the bytes in use.
    pub read_pairs : (xs : List Image) → read_records most_images in_use ≡ Some xs → pairs xs ≡ held_pairs buffer used
    read_pairs xs e = sym (held_pairs_are buffer used xs (held_in_use buffer used h ∙ e))

    module _ (bytes : (k : ℕ) → get_or buffer k 0 < 256) (size : ℕ) where
      -- Bytes that are no store are refused.
      pub judge_broken : is_broken (length in_use) (read_records most_images in_use) ≡ true → judge_number buffer used size ≡ 11
      unfolding judge_number judge_questions
      judge_broken e = asked_first _ _ (broken_in_use buffer used h bytes ∙ e)

      -- Of a store the pairs alone decide the number.
      pub judge_sound : is_broken (length in_use) (read_records most_images in_use) ≡ false → (xs : List Image) → read_records most_images in_use ≡ Some xs
          → report_number size (pairs xs) ≡ judge_number buffer used size
      unfolding judge_number judge_questions held_pairs
      judge_sound e xs i =
          ap (report_number size) (read_pairs xs i)
          ∙ sym (asked_next _ _ (broken_in_use buffer used h bytes ∙ e) ∙ space_asked size (held_pairs buffer used))
