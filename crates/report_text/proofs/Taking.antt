-- What is taken of a part: the end of the line is found, and what comes before it is copied as far as there is space.
use Prim.Native.Nat.{ℕ, suc, ◌+◌, ◌-◌, ◌≤◌, ◌<◌, min}
use mathlib.Core.Path.{◌≡◌, sym, ap, ◌∙◌}
use mathlib.Core.List.{List, ◌++◌}
use native.Mathlib.Omega.{arith}
use lib.Dec.{ltb}
use lib.ListN.{length, take, drop, length-take, length-drop}
use lib.Seq.{paste}
use borrow.Author.Tests.{lt-ltb, le-ltb, ltb-true, ltb-false}
use Rattle.laws.proofs.Order.{by_test}
use Rattle.report_text.specs.Lines.{before, after, has}
use Rattle.report_text.specs.Parts.{line_kept, Takes}
use Rattle.report_text.specs.declared.Taken.{Taken}
use Rattle.report_text.proofs.Marks.{before_take, after_drop, has_before}
use Rattle.report_text.proofs.Keeping.{kept_size, kept_paste}

module _ (kept : List ℕ) (n : ℕ) (part : List ℕ) (at : ℕ) (h : n ≤ length kept) (g : at ≤ length part) where
  abbrev come : List ℕ
  come = before 0x0A (drop at part)

  rest_size : length (drop at part) ≡ length part - at
  rest_size = length-drop at part

  -- the place after the line's end
  after_place : (end : ℕ) → end ≡ at + length come → min (end + 1) (length part) ≡ length part - length (after 0x0A (drop at part))
  after_place end e =
      let k = length-drop (suc (length come)) (drop at part) in
      omega (arith, rest_size, ap length (after_drop 0x0A (drop at part)), k)

  -- whether it is there
  end_there : (end : ℕ) → end ≡ at + length come → ltb end (length part) ≡ has 0x0A (drop at part)
  end_there end e =
      by_test (ltb (length come) (length (drop at part)))
      (λ t. lt-ltb end (length part) (omega (arith, ltb-true (length come) (length (drop at part)) t, rest_size)) ∙ sym (has_before 0x0A (drop at part) ∙ t))
      (λ t. le-ltb end (length part) (omega (arith, ltb-false (length come) (length (drop at part)) t, rest_size)) ∙ sym (has_before 0x0A (drop at part) ∙ t))

  -- A line's end that is found and a copy of what comes before it are what is taken.
  pub takes_copy : (end k p : ℕ) (kept' : List ℕ) → end ≡ at + length come → k ≡ min (end - at) (length kept - n) → p ≡ min (end + 1) (length part)
      → kept' ≡ paste kept n (drop at part) k → Takes kept n part at (record { at = p; length = n + k; ended = ltb end (length part) }) kept'
  takes_copy end k p kept' e f q w =
      let least : k ≡ min (length come) (length kept - n) = omega arith in
      record {
        place = q ∙ after_place end e;
        size = sym (kept_size kept n h come k least);
        ended = end_there end e;
        bytes = w ∙ sym (kept_paste kept n h come k least (drop at part) (before_take 0x0A (drop at part)));
      }

-- What is taken lies within the part and the buffer, and where the part is not at its end something is taken.
module _ {kept : List ℕ} {n : ℕ} {part : List ℕ} {at : ℕ} {r : Taken} {kept' : List ℕ} (t : Takes kept n part at r kept') where
  -- The position after what is taken lies within the part.
  pub taken_within : r.at ≤ length part
  taken_within = omega (arith, t.place)

  -- No more bytes are kept of the line than the buffer has space for.
  pub taken_kept : r.length ≤ length kept
  unfolding line_kept
  taken_kept = omega (arith, t.size, length-take (length kept) (take n kept ++ before 0x0A (drop at part)))

  -- Where the part is not at its end, the position after what is taken is a later one.
  pub taken_more : at < length part → at < r.at
  taken_more h =
      let after_size = length-drop (suc (length (before 0x0A (drop at part)))) (drop at part) in
      omega (arith, t.place, length-drop at part, ap length (after_drop 0x0A (drop at part)), after_size)
