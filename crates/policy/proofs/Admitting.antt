-- What the number 0 of a judgement tells, and when a store is admitted. Assumes nothing.
use Rattle.std.specs.Prelude.{Option, None, Some}
use Prim.Native.Nat.{ℕ, ◌*◌, ◌≤◌, ◌<◌}
use mathlib.Core.Path.{◌≡◌, refl, sym, ap, subst, ◌∙◌}
use mathlib.Core.Logic.{◌↔◌}
use mathlib.Core.Bool.{Bool, true, false, not}
use mathlib.Core.List.{List, [], ◌∷◌, ◌++◌, Memᴰ as In}
use native.Mathlib.Omega.{arith}
use borrow.Author.Tests.{eqb-true, ltb-false, le-ltb, eq-eqb}
use lib.Dec.{eqb}
use lib.ListN.{length, get_or, drop}
use Rattle.laws.proofs.Order.{by_test, false_true}
use Rattle.manifest.proofs.Asking.{nothing_asked, asked_none, asked_small, none_asked}
use Rattle.store_record.specs.Image.{Image}
use Rattle.store_open.specs.Held.{held, is_broken, well_formed, among}
use Rattle.store_open.proofs.Holding.{Sound, sound_parts, held_holds}
use Rattle.policy_marks.specs.Pairs.{Pair, no_report_space, report_of, pairs_after, report_after}
use Rattle.policy.specs.Pairs.{pairs}
use Rattle.policy.specs.Judge.{judge_questions, judge_number, held_pairs, judge_pairs, judge_bytes, Admitted}
use Rattle.policy.specs.Exact.{Exact, AllReached}
use Rattle.policy.proofs.Chains.{below_at}
use Rattle.policy.proofs.Exact.{exact, few_pairs, unlisted_reached}

not_broken : (b : Bool) → not b ≡ true → b ≡ false
not_broken true e = false_true e
not_broken false e = refl

-- a well-formed store and the images that it holds
pub record HeldWell (buffer : List ℕ) (used : ℕ) : Type 0 where
  pub images : List Image
  pub holds : held buffer used ≡ Some images
  pub sound : Sound (length buffer) images

module _ (buffer : List ℕ) (used : ℕ) where
  unbroken : well_formed buffer used ≡ true → is_broken (length buffer) (held buffer used) ≡ false
  unfolding well_formed
  unbroken e = not_broken (is_broken (length buffer) (held buffer used)) e

  -- A well-formed store holds images that make a sound store.
  pub held_well : well_formed buffer used ≡ true → HeldWell buffer used
  unfolding is_broken
  held_well e = by_held (held buffer used) refl
    where
      by_held : (o : Option (List Image)) → held buffer used ≡ o → HeldWell buffer used
      by_held None q = let z : is_broken (length buffer) None ≡ false = rw q at (unbroken e) in false_true (sym z)
      by_held (Some xs) q = record { images = xs; holds = q; sound = sound_parts (length buffer) xs (rw q at (unbroken e)) }

  -- The pairs of a store are those of the images that it holds.
  pub held_pairs_are : (xs : List Image) → held buffer used ≡ Some xs → held_pairs buffer used ≡ pairs xs
  unfolding held_pairs among
  held_pairs_are xs e = rw e

  -- A well-formed store has few pairs.
  few_held : well_formed buffer used ≡ true → length (held_pairs buffer used) ≤ 64 * 63
  few_held e = let w = held_well e in rw (held_pairs_are w.images w.holds) (few_pairs w.images w.sound.few)

  module _ (size : ℕ) where
    zero_well : judge_number buffer used size ≡ 0 → (well_formed buffer used ≡ true) × (2 * length (held_pairs buffer used) ≤ size)
    unfolding judge_number judge_questions well_formed held_pairs no_report_space
    zero_well e =
        let a = none_asked _ _ (omega arith) e in
        let b = none_asked _ _ (omega arith) a.1 in
        (rw a.0, ltb-false size (2 * length (pairs (among (held buffer used)))) b.0)

    well_zero : (well_formed buffer used ≡ true) × (2 * length (held_pairs buffer used) ≤ size) → judge_number buffer used size ≡ 0
    unfolding judge_number judge_questions held_pairs no_report_space
    well_zero w =
        asked_none _ _ (unbroken w.0) (asked_none _ _ (le-ltb size (2 * length (pairs (among (held buffer used)))) w.1) nothing_asked)

    -- A judgement gets the number 0 exactly if the store is well-formed and there is space for the report.
    pub number_zero : (judge_number buffer used size ≡ 0) ↔ ((well_formed buffer used ≡ true) × (2 * length (held_pairs buffer used) ≤ size))
    number_zero = (zero_well, well_zero)

    -- With the number 0 the pairs are told.
    pub zero_pairs : judge_number buffer used size ≡ 0 → judge_pairs buffer used size ≡ length (held_pairs buffer used)
    unfolding judge_pairs pairs_after
    zero_pairs e = rw (eq-eqb (judge_number buffer used size) 0 e, pairs_after)

    -- The number is at most 20.
    pub judge_number_small : judge_number buffer used size ≤ 20
    unfolding judge_number judge_questions
    judge_number_small = asked_small _ _ 20 (omega arith) (asked_small _ _ 20 (omega arith) (omega (arith, nothing_asked)))

    -- The number of pairs is at most 64 times 63, whatever the buffer holds.
    pub judge_pairs_small : judge_pairs buffer used size ≤ 64 * 63
    unfolding judge_pairs pairs_after
    judge_pairs_small =
        by_test (eqb (judge_number buffer used size) 0)
        (λ e. rw (e, pairs_after) (few_held (zero_well (eqb-true (judge_number buffer used size) 0 e)).0))
        (λ e. rw (e, pairs_after) (omega arith))

-- what the number 0 of a judgement tells: the images, that the report on them is exactly right, and that it is what is answered and written
pub record Judged (buffer : List ℕ) (used size : ℕ) : Type 0 where
  pub images : List Image
  pub holds : held buffer used ≡ Some images
  pub well : well_formed buffer used ≡ true
  pub exact : Exact images
  pub count : judge_pairs buffer used size ≡ length (pairs images)
  pub fits : 2 * length (pairs images) ≤ size
  pub bytes : (report : List ℕ) → length report ≡ size
      → judge_bytes buffer used report ≡ report_of (pairs images) ++ drop (2 * length (pairs images)) report

zero_bytes : (buffer : List ℕ) (used : ℕ) (report : List ℕ) → judge_number buffer used (length report) ≡ 0
    → judge_bytes buffer used report ≡ report_of (held_pairs buffer used) ++ drop (2 * length (held_pairs buffer used)) report
unfolding judge_bytes report_after
zero_bytes buffer used report e = rw (eq-eqb (judge_number buffer used (length report)) 0 e, report_after)

none_listed : {A : Type 0} {x : A} {xs : List A} → length xs ≡ 0 → In x xs → ⊥
none_listed e (In.head f) = omega arith
none_listed e (In.tail m) = omega arith

-- Where every guard leads to every other image, no pair is listed.
pub reached_none : (xs : List Image) → Exact xs → AllReached xs → length (pairs xs) ≡ 0
reached_none xs x r = by_pairs (pairs xs) refl
  where
    unlisted : (p : Pair) → In p (pairs xs) → ⊥
    unlisted p m =
        let l = x.places p m in
        let a = below_at xs p.guard l.0 in
        let b = below_at xs p.other l.1 in
        let u = (x.listed p.guard p.other a.0 b.0 a.1 b.1).0 m in
        u.no_chain (r p.guard p.other a.0 b.0 a.1 b.1 u.guard u.other)

    by_pairs : (ps : List Pair) → pairs xs ≡ ps → length (pairs xs) ≡ 0
    by_pairs [] e = ap length e
    by_pairs (p ∷ ps) e = absurd (unlisted p (subst (In p) (sym e) (In.head refl)))

module _ (buffer : List ℕ) (used size : ℕ) (bytes : (k : ℕ) → get_or buffer k 0 < 256) where
  well_exact : (xs : List Image) → held buffer used ≡ Some xs → Sound (length buffer) xs → Exact xs
  well_exact xs h s = exact xs (held_holds buffer used xs bytes h).each s.ids s.few

  -- A judgement gets the number 0 only if all of this holds.
  pub judged : judge_number buffer used size ≡ 0 → Judged buffer used size
  judged e =
      let z = zero_well buffer used size e in
      let w = held_well buffer used z.0 in
      let p = held_pairs_are buffer used w.images w.holds in
      record {
        images = w.images;
        holds = w.holds;
        well = z.0;
        exact = well_exact w.images w.holds w.sound;
        count = zero_pairs buffer used size e ∙ ap length p;
        fits = omega (arith, z.1, ap length p);
        bytes = λ report n. rw p at (zero_bytes buffer used report (rw (sym n) at e));
      }

  -- A store is admitted exactly if it is well-formed and every guard in it leads to every other image by a chain.
  pub admitted_exactly : Admitted buffer used size ↔ ((well_formed buffer used ≡ true) × AllReached (among (held buffer used)))
  unfolding among
  admitted_exactly = (from, to)
    where
      from : Admitted buffer used size → (well_formed buffer used ≡ true) × AllReached (among (held buffer used))
      from d =
          let j = judged d.number in
          let l : length (pairs j.images) ≡ 0 = sym j.count ∙ d.none in
          (j.well, rw j.holds (λ g o a b h k c n. unlisted_reached j.images h k c n (none_listed l)))

      to : (well_formed buffer used ≡ true) × AllReached (among (held buffer used)) → Admitted buffer used size
      to w =
          let x = held_well buffer used w.0 in
          let xs = x.images in
          let r : AllReached xs = rw x.holds at w.1 in
          let n : length (pairs xs) ≡ 0 = reached_none xs (well_exact xs x.holds x.sound) r in
          let l : length (held_pairs buffer used) ≡ 0 = ap length (held_pairs_are buffer used xs x.holds) ∙ n in
          let e = well_zero buffer used size (w.0, omega arith) in
          record { number = e; none = zero_pairs buffer used size e ∙ l }
