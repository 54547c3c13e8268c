-- The bytes before and after the first of a kind: step by step, and by their number.
use Prim.Native.Nat.{ℕ, zero, suc, ◌+◌, ◌-◌, ◌≤◌, ◌<◌}
use mathlib.Core.Path.{◌≡◌, refl, sym, ap, ◌∙◌}
use mathlib.Core.Bool.{true, false}
use mathlib.Core.List.{List, [], ◌∷◌}
use native.Mathlib.Omega.{arith}
use native.Mathlib.Numerals.{add-one}
use lib.Dec.{ltb, eqb}
use lib.ListN.{length, take, drop, get_or, length-drop}
use lib.Seq.{drop-cons}
use borrow.Author.Tests.{eq-eqb, ne_eqb, lt-ltb, le-ltb, ltb-true, ltb-false}
use Rattle.laws.proofs.Order.{by_test}
use Rattle.lines.specs.First.{FirstFrom}
use Rattle.report_text.specs.Lines.{before, after, has}

module _ (x : ℕ) where
  -- At an x, and at any other byte.
  pub before_here : (b : ℕ) (s : List ℕ) → eqb b x ≡ true → before x (b ∷ s) ≡ []
  unfolding before
  before_here b s e = rw (e, before)

  -- Where the first byte is no x, before the first x come that byte and those before the first x of the rest.
  pub before_next : (b : ℕ) (s : List ℕ) → eqb b x ≡ false → before x (b ∷ s) ≡ b ∷ before x s
  unfolding before
  before_next b s e = rw (e, before)

  -- Where the first byte is an x, the rest comes after it.
  pub after_here : (b : ℕ) (s : List ℕ) → eqb b x ≡ true → after x (b ∷ s) ≡ s
  unfolding after
  after_here b s e = rw (e, after)

  -- Where the first byte is no x, after the first x come the bytes after the first x of the rest.
  pub after_next : (b : ℕ) (s : List ℕ) → eqb b x ≡ false → after x (b ∷ s) ≡ after x s
  unfolding after
  after_next b s e = rw (e, after)

  -- A list whose first byte is an x has one.
  pub has_here : (b : ℕ) (s : List ℕ) → eqb b x ≡ true → has x (b ∷ s) ≡ true
  unfolding has
  has_here b s e = rw (e, has)

  -- A list whose first byte is no x has one exactly if the rest has.
  pub has_next : (b : ℕ) (s : List ℕ) → eqb b x ≡ false → has x (b ∷ s) ≡ has x s
  unfolding has
  has_next b s e = rw (e, has)

  -- The bytes before the first x are bytes of the list.
  pub before_within : (s : List ℕ) → length (before x s) ≤ length s
  unfolding before
  before_within [] = omega arith
  before_within (b ∷ s) =
      let r : length (before x s) ≤ length s = before_within s in
      by_test (eqb b x) (λ e. omega (arith, ap length (before_here b s e))) (λ e. omega (arith, ap length (before_next b s e)))

  -- They are its first bytes,
  pub before_take : (s : List ℕ) → before x s ≡ take (length (before x s)) s
  unfolding before
  before_take [] = refl
  before_take (b ∷ s) =
      let r : before x s ≡ take (length (before x s)) s = before_take s in
      by_test (eqb b x) (λ e. rw (before_here b s e)) (λ e. rw (before_next b s e) (ap (λ (l : List ℕ). b ∷ l) r))

  -- one byte past them those after it begin,
  pub after_drop : (s : List ℕ) → after x s ≡ drop (suc (length (before x s))) s
  unfolding before after
  after_drop [] = refl
  after_drop (b ∷ s) =
      let r : after x s ≡ drop (suc (length (before x s))) s = after_drop s in
      by_test (eqb b x) (λ e. rw (before_here b s e, after_here b s e)) (λ e. rw (before_next b s e, after_next b s e) r)

  -- and there is an x where they are not all.
  pub has_before : (s : List ℕ) → has x s ≡ ltb (length (before x s)) (length s)
  unfolding before has
  has_before [] = refl
  has_before (b ∷ s) =
      let r : has x s ≡ ltb (length (before x s)) (length s) = has_before s in
      by_test (eqb b x)
      (λ e. has_here b s e ∙ sym (lt-ltb (length (before x (b ∷ s))) (suc (length s)) (omega (arith, ap length (before_here b s e)))))
      (λ e.
      has_next b s e ∙ r ∙ sym (ltb_suc (length (before x s)) (length s))
      ∙ ap (λ (l : List ℕ). ltb (length l) (suc (length s))) (sym (before_next b s e)))
    where
      ltb_suc : (m n : ℕ) → ltb (suc m) (suc n) ≡ ltb m n
      ltb_suc m n =
          by_test (ltb m n)
          (λ e. lt-ltb (suc m) (suc n) (omega (arith, ltb-true m n e)) ∙ sym e)
          (λ e. le-ltb (suc m) (suc n) (omega (arith, ltb-false m n e)) ∙ sym e)

-- how many bytes come before the first x: at an x none, at any other byte one more than from the next place on, and at the end none
module _ (x : ℕ) (s : List ℕ) (i : ℕ) where
  found_here : i < length s → get_or s i 0 ≡ x → length (before x (drop i s)) ≡ 0
  found_here h e = ap (λ (l : List ℕ). length (before x l)) (drop-cons s i 0 h) ∙ ap length (before_here x _ _ (eq-eqb _ _ e))

  found_later : i < length s → (get_or s i 0 ≡ x → ⊥) → length (before x (drop i s)) ≡ suc (length (before x (drop (i + 1) s)))
  found_later h n =
      ap (λ (l : List ℕ). length (before x l)) (drop-cons s i 0 h) ∙ ap length (before_next x _ _ (ne_eqb _ _ n))
      ∙ ap (λ (k : ℕ). suc (length (before x (drop k s)))) (sym (add-one i))

  found_never : length s ≤ i → length (before x (drop i s)) ≡ 0
  found_never h = omega (arith, before_within x (drop i s), length-drop i s)

first_counted : (x : ℕ) (s : List ℕ) (n at r : ℕ) → FirstFrom s at x r → r ≡ at + n → r ≡ at + length (before x (drop at s))
first_counted x s zero at r f e =
    let q : at ≡ r = omega arith in
    by_test (ltb at (length s))
    (λ t.
    let h = ltb-true at (length s) t in
    omega (arith, found_here x s at h (ap (λ (k : ℕ). get_or s k 0) q ∙ f.found (omega (arith, h)))))
    (λ t. omega (arith, found_never x s at (ltb-false at (length s) t)))
first_counted x s (suc n) at r f e =
    let h : at < length s = omega (arith, f.within) in
    let later : FirstFrom s (at + 1) x r = record {
      start = omega arith;
      within = f.within;
      before = λ k l m. f.before k (omega arith) m;
      found = f.found;
    } in
    omega (arith, first_counted x s n (at + 1) r later (omega arith), found_later x s at h (f.before at (omega arith) (omega arith)))

-- The first x from a place on stands after the bytes that come before it.
pub first_before : {x : ℕ} {s : List ℕ} {at r : ℕ} → FirstFrom s at x r → r ≡ at + length (before x (drop at s))
first_before {x} {s} {at} {r} f = first_counted x s (r - at) at r f (omega (arith, f.start))
