-- The positions of the aliases of one image after the other, and their numbers.
use Prim.Native.Nat.{ℕ, ◌+◌, ◌-◌, ◌*◌, ◌≤◌, ◌<◌}
use mathlib.Core.Path.{◌≡◌, sym, ap, ◌∙◌}
use mathlib.Core.List.{List, ◌++◌}
use native.Mathlib.Omega.{arith}
use lib.Dec.{eqb}
use lib.ListN.{length, take, drop, get_or, set, length-set, length-append, length-drop, take-append-drop}
use lib.Seq.{length-take-le, take-append-le, drop_at, drop-append-le, get_or-set_same, get_or-set_other}
use borrow.Author.Tests.{eqb-true, eqb-false}
use borrow.Rule.Slice.PartMut.{put_mid}
use Rattle.laws.proofs.Order.{by_test}
use Rattle.laws.proofs.Writing.{lent_back}
use Rattle.manifest_index.specs.Index.{NamesIn}
use Rattle.manifest.specs.Manifest.{self_names}
use Rattle.manifest_index.proofs.Indexing.{names_number}
use Rattle.store_record.specs.Reading.{between, no_record}
use Rattle.store_record.specs.declared.Survey.{Survey}
use Rattle.store_names.specs.Placed.{most_names, PlacedUpTo, Numbered}

-- the part of a list past place m is lent, and another comes back
module _ (m : ℕ) (l part : List ℕ) (h : m ≤ length l) where
  before_it : length (take m l) ≡ m
  before_it = length-take-le m l h

  -- what ends before the place stays
  back_before : (j n : ℕ) → j + n ≤ m → take n (drop j (take m l ++ part)) ≡ take n (drop j l)
  back_before j n k = front part ∙ sym (front (drop m l)) ∙ ap (λ (r : List ℕ). take n (drop j r)) (take-append-drop m l)
    where
      front : (q : List ℕ) → take n (drop j (take m l ++ q)) ≡ take n (drop j (take m l))
      front q =
          ap (take n) (drop-append-le j (take m l) q (omega (arith, before_it)))
          ∙ take-append-le n (drop j (take m l)) q (omega (arith, before_it, length-drop j (take m l)))

module _ (b : List ℕ) (v : Survey) (at counts : List ℕ) where
  -- At first no image's aliases are asked for.
  pub placed_none : length at ≡ 4096 → length counts ≡ 64 → PlacedUpTo 0 b v at counts
  placed_none h k = record { at_space = h; counts_space = k; few = λ i l. absurd (omega arith); each = λ i l. absurd (omega arith) }

  module _ (i : ℕ) (s : PlacedUpTo i b v at counts) (h : i < 64) (n : ℕ) (part : List ℕ) (few : n ≤ most_names)
      (size : length part + most_names * i ≡ length at) where
    abbrev after : List ℕ
    after = take (most_names * i) at ++ part

    fits : most_names * i ≤ length at
    fits = omega (arith, s.at_space)

    -- the number and the positions of an image that came before
    count_before : (k : ℕ) → k < i → get_or (set counts i n) k 0 ≡ get_or counts k 0
    count_before k l = get_or-set_other counts i k n 0 (λ e. omega arith)

    names_before : (k : ℕ) → k < i → take (get_or counts k 0) (drop (most_names * k) after) ≡ take (get_or counts k 0) (drop (most_names * k) at)
    names_before k l = back_before (most_names * i) at part fits (most_names * k) (get_or counts k 0) (omega (arith, s.few k l))

    -- and those of this image
    count_here : get_or (set counts i n) i 0 ≡ n
    count_here = get_or-set_same counts i n 0 (omega (arith, s.counts_space))

    names_here : drop (most_names * i) after ≡ part
    names_here = drop_at (take (most_names * i) at) part (most_names * i) (before_it (most_names * i) at part fits)

    placed_after : NamesIn b (take n part) (self_names (between b (get_or v.records i no_record).text (get_or v.records i no_record).end))
        → PlacedUpTo (i + 1) b v after (set counts i n)
    placed_after o =
        record {
          at_space = length-append (take (most_names * i) at) part ∙ omega (arith, before_it (most_names * i) at part fits, s.at_space);
          counts_space = length-set counts i n ∙ s.counts_space;
          few = λ k l. by_test (eqb k i)
              (λ e. rw (eqb-true k i e, count_here) few)
              (λ e. let g : k < i = omega (arith, eqb-false k i e) in rw (count_before k g) (s.few k g));
          each = λ k l. by_test (eqb k i)
              (λ e. rw (eqb-true k i e, count_here, names_here) o)
              (λ e. let g : k < i = omega (arith, eqb-false k i e) in rw (count_before k g, names_before k g) (s.each k g));
        }

    -- The part past the places of the first i images is lent, and comes back with the positions of the aliases of one more image at its start.
    pub placed_next : NamesIn b (take n part) (self_names (between b (get_or v.records i no_record).text (get_or v.records i no_record).end))
        → PlacedUpTo (i + 1) b v (put_mid (64 * i) (length at - 64 * i) at part) (set counts i n)
    placed_next o = rw (lent_back (64 * i) at part) (placed_after o)

  -- At the positions that are written stand names.
  pub placed_numbered : (n : ℕ) → n ≤ 64 → PlacedUpTo n b v at counts → Numbered n b at counts
  placed_numbered n h s =
      record {
        few = s.few;
        each = λ i l k m. names_number b at (most_names * i) (get_or counts i 0) _ (s.each i l) (omega (arith, s.few i l, s.at_space)) k m;
      }
