-- How the start of a slice is written: a pair's two bytes after the others, and by what is written to the part past them.
use Prim.Native.Nat.{ℕ, ◌+◌, ◌-◌, ◌*◌, ◌≤◌}
use mathlib.Core.Path.{◌≡◌, refl, sym, ap, subst, ◌∙◌}
use mathlib.Core.List.{List, [], ◌∷◌, ◌++◌, append_assoc}
use native.Mathlib.Omega.{arith}
use lib.ListN.{length, drop, set, length-append}
use borrow.Rule.Slice.PartMut.{mid_of, put_mid}
use Rattle.laws.specs.Writes.{Writes}
use Rattle.laws.proofs.Writing.{nothing_written, lent_length, byte_written, part_written}
use Rattle.policy_marks.specs.Pairs.{Pair, report_of}
use Rattle.policy_pairs.proofs.Listing.{pair, report_length, report_both}

-- the report of these pairs is written at the start of a list, and n is how many bytes it has
pub record WritesPairs (before after : List ℕ) (n : ℕ) (ps : List Pair) : Type 0 where
  pub size : n ≡ 2 * length ps
  pub bytes : Writes before after (report_of ps)

-- Where nothing is written the report has no pairs.
pub no_pairs_written : (l : List ℕ) → WritesPairs l l 0 []
unfolding report_of
no_pairs_written l = record { size = refl; bytes = nothing_written l }

-- A report that fits is written where the list begins with it and goes on as before.
pub written_by : (before after : List ℕ) (n : ℕ) (ps : List Pair) → n ≡ 2 * length ps → n ≤ length before → after ≡ report_of ps ++ drop n before
    → WritesPairs before after n ps
written_by before after n ps e h f =
    record {
      size = e;
      bytes = record { fits = omega (arith, report_length ps); all = f ∙ ap (λ (k : ℕ). report_of ps ++ drop k before) (e ∙ sym (report_length ps)) };
    }

module _ {before mid : List ℕ} {n : ℕ} {ps : List Pair} (w : WritesPairs before mid n ps) where
  ends : n ≡ length (report_of ps)
  ends = w.size ∙ sym (report_length ps)

  -- What is past the report of the pairs is as it was.
  pub pairs_written : mid ≡ report_of ps ++ drop n before
  pairs_written = w.bytes.all ∙ ap (λ (k : ℕ). report_of ps ++ drop k before) (sym ends)

  -- The bytes of one pair more are written.
  pub pair_written : (g o : ℕ) → n + 2 ≤ length before → WritesPairs before (set (set mid n g) (n + 1) o) (n + 2) (ps ++ pair g o ∷ [])
  unfolding report_of
  pair_written g o h =
      record {
        size = omega (arith, w.size, length-append ps (pair g o ∷ []));
        bytes = subst (Writes before (set (set mid n g) (n + 1) o)) (append_assoc (report_of ps) (g ∷ []) (o ∷ []) ∙ sym (report_both ps (pair g o ∷ [])))
            (byte_written (byte_written w.bytes n g ends (omega arith)) (n + 1) o (omega (arith, ends, length-append (report_of ps) (g ∷ []))) (omega arith));
      }

  -- What is lent past the report is what is left.
  pub left_length : length (mid_of n (length mid - n) mid) + n ≡ length before
  left_length = lent_length w.bytes n ends

  -- The part past the report is lent, and comes back with the report of other pairs at its start.
  pub more_written : (part : List ℕ) (m : ℕ) (qs : List Pair) → WritesPairs (mid_of n (length mid - n) mid) part m qs
      → WritesPairs before (put_mid n (length mid - n) mid part) (n + m) (ps ++ qs)
  more_written part m qs v =
      record {
        size = omega (arith, w.size, v.size, length-append ps qs);
        bytes = subst (Writes before (put_mid n (length mid - n) mid part)) (sym (report_both ps qs))
            (part_written w.bytes n part (report_of qs) ends v.bytes);
      }
