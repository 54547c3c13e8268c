-- The pairs of Image IDs in a report on images in any order. Assumes nothing.
use Prim.Native.Nat.{ℕ, ◌*◌, ◌≤◌}
use mathlib.Core.Path.{◌≡◌, refl, sym, ap, ◌∙◌}
use mathlib.Core.List.Memᴰ
use mathlib.Core.List.Permᴰ
use mathlib.Core.List.{List, [], ◌∷◌, ◌++◌, map, Memᴰ as In, Permᴰ as Permutation}
use mathlib.Core.Bool.{false}
use borrow.Author.Tests.{le-ltb}
use lib.ListN.{length, drop}
use Rattle.reference.specs.References.{no_id}
use Rattle.manifest.proofs.Asking.{nothing_asked, asked_none}
use Rattle.policy_marks.specs.Pairs.{Pair, report_of, no_report_space, pairs_after, report_after}
use Rattle.store_record.specs.Image.{Image}
use Rattle.store_record.specs.Ids.{id_twice}
use Rattle.store_record.specs.Store.{AllShaped}
use Rattle.store_open.specs.Held.{is_broken, among}
use Rattle.store_open.proofs.Holding.{sound_parts}
use Rattle.policy.specs.Chain.{At}
use Rattle.policy.specs.Pairs.{pairs}
use Rattle.policy.specs.Judge.{judge_questions, judge_number, held_pairs, judge_pairs, judge_bytes}
use Rattle.policy.proofs.Chains.{below_at, at_get, at_map}
use Rattle.policy.proofs.Exact.{pair_listed}
use Rattle.policy.proofs.Reordering.{PairOf, pairs_permuted}
use Rattle.history.specs.Calls.{State}
use Rattle.history.specs.Reports.{read_pairs, listed, first_id, id_at, IdPair, named, id_pairs, LongEnough, SameReports}
use Rattle.history.proofs.Stepping.{Stands, stands_held}

-- What is written is read back.
pub read_report : (ps : List Pair) (r : List ℕ) → read_pairs (length ps) (report_of ps ++ r) ≡ ps
unfolding read_pairs report_of
read_report [] r = refl
read_report (p ∷ ps) r = ap (λ (l : List Pair). p ∷ l) (read_report ps r)

module _ (lent : List ℕ) (s : State) (xs : List Image) (h : Stands lent s xs) where
  pairs_held : held_pairs s.buffer s.used ≡ pairs xs
  unfolding held_pairs among
  pairs_held = rw (stands_held lent s xs h)

  module _ (report : List ℕ) (l : LongEnough s report) where
    judged : judge_number s.buffer s.used (length report) ≡ 0
    unfolding judge_number judge_questions is_broken among no_report_space
    judged =
        let k : 2 * length (pairs xs) ≤ length report = rw pairs_held at l in
        rw (stands_held lent s xs h, h.size) (asked_none _ _ h.sound (asked_none _ _ (le-ltb (length report) (2 * length (pairs xs)) k) nothing_asked))

    -- A report in a buffer long enough lists the pairs of the images.
    pub report_pairs : listed s report ≡ pairs xs
    unfolding listed judge_pairs judge_bytes pairs_after report_after
    report_pairs = rw (judged, pairs_held) (read_report (pairs xs) (drop (2 * length (pairs xs)) report))

    -- It lists the IDs of these pairs.
    pub report_ids : id_pairs s report ≡ map (named xs) (pairs xs)
    unfolding id_pairs among
    report_ids = rw (stands_held lent s xs h, report_pairs)

-- the Image ID of what stands at a place
id_at_is : {xs : List Image} {k : ℕ} {a : Image} → At xs k a → id_at xs k ≡ first_id a.ids
unfolding id_at
id_at_is a = at_get (at_map (λ (x : Image). first_id x.ids) a) no_id

-- two images of a listed pair, with these IDs
record Named (xs : List Image) (p : IdPair) : Type 0 where
  a : Image
  b : Image
  of : PairOf xs a b
  guard_is : p.guard ≡ first_id a.ids
  other_is : p.other ≡ first_id b.ids

-- the IDs that a report lists are those of the images of its pairs
listed_named : (xs : List Image) (p : IdPair) → In p (map (named xs) (pairs xs)) → Named xs p
unfolding named
listed_named xs p i =
    let m = Memᴰ.of_map (named xs) (pairs xs) i in
    let q = m.0 in
    let w = (pair_listed xs q.guard q.other).0 m.1 in
    let a = below_at xs q.guard w.0 in
    let b = below_at xs q.other w.1 in
    record {
      a = a.0;
      b = b.0;
      of = record { guard = q.guard; other = q.other; guard_at = a.1; other_at = b.1; listed = m.1 };
      guard_is = ap (λ (r : IdPair). r.guard) (sym m.2) ∙ id_at_is a.1;
      other_is = ap (λ (r : IdPair). r.other) (sym m.2) ∙ id_at_is b.1;
    }

named_listed : (xs : List Image) (p : IdPair) → Named xs p → In p (map (named xs) (pairs xs))
unfolding named
named_listed xs p n =
    Memᴰ.cast
    (λ i. record { guard = (n.guard_is ∙ sym (id_at_is n.of.guard_at)) i; other = (n.other_is ∙ sym (id_at_is n.of.other_at)) i })
    (Memᴰ.map (named xs) n.of.listed)

carried : {xs ys : List Image} → Permutation xs ys → AllShaped xs → id_twice xs ≡ false → {p : IdPair} → Named xs p → Named ys p
carried q s d n = record { a = n.a; b = n.b; of = (pairs_permuted q s d).0 n.of; guard_is = n.guard_is; other_is = n.other_is }

-- what one report lists the other lists too
module _ (lent : List ℕ) (s : State) (xs : List Image) (h : Stands lent s xs) (other : List ℕ) (t : State) (ys : List Image) (k : Stands other t ys)
    (q : Permutation xs ys) where
  reported : (first second : List ℕ) → LongEnough s first → LongEnough t second → (p : IdPair) → In p (id_pairs s first) → In p (id_pairs t second)
  reported first second l m p i =
      rw (report_ids other t ys k second m)
      (named_listed ys p
      (carried q h.holds.each (sound_parts (length lent) xs h.sound).ids (listed_named xs p (rw (report_ids lent s xs h first l) at i))))

-- Two buffers that hold the same images in any order have reports with the same pairs of Image IDs.
pub same_reports : {lent other : List ℕ} {s t : State} {xs ys : List Image} → Stands lent s xs → Stands other t ys → Permutation xs ys → SameReports s t
same_reports {lent} {other} {s} {t} {xs} {ys} h k q first second l m p =
    (reported lent s xs h other t ys k q first second l m p, reported other t ys k lent s xs h (Permᴰ.symm q) second first m l p)
