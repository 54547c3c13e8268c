-- Runs of bytes that are alike in two texts and end no string: comparing goes on behind them.
-- Assumes nothing.
use Prim.Native.Nat.{ℕ, zero, suc, ◌+◌, ◌<◌, ◌≤◌}
use mathlib.Core.Path.{◌≡◌, refl, sym, ap, subst₂, ◌∙◌}
use mathlib.Core.List.{List, [], ◌∷◌, ◌++◌}
use mathlib.Core.Bool.{Bool, true, false, ◌&&◌, and-eq-true_iff}
use native.Mathlib.Omega.{arith}
use native.Mathlib.Nat.{add-zero}
use native.Mathlib.Numerals.{add-one}
use borrow.Author.Tests.{leb-true, le-leb, lt-leb}
use lib.Dec.{leb, eqb}
use lib.ListN.{length, take, drop, get_or, length-drop, length-take}
use lib.Seq.{take-suc, get_or-drop, get_or-take}
use Rattle.text_chars.specs.Measure.{is_unmarked, every}
use Rattle.text_chars.proofs.Plain.{unmarked_at}
use Rattle.laws.specs.Order.{same}
use Rattle.laws.proofs.Order.{by_test, same_eq}
use Rattle.text_strings.specs.InString.{InString, Inside}
use Rattle.text_order.specs.Compare.{order, alike}
use Rattle.std.specs.declared.cmp.Ordering.{Ordering}
use Rattle.text_strings.proofs.Cursors.{inside_next}
use Rattle.text_order.proofs.Orders.{Tracks, both_plain}

-- one byte more at the end of two lists of one length
same_snoc : (xs ys : List ℕ) (a b : ℕ) → length xs ≡ length ys → same (xs ++ (a ∷ [])) (ys ++ (b ∷ [])) ≡ same xs ys && eqb a b
unfolding same
same_snoc [] [] a b h = by_test (eqb a b) (λ e. rw (e, same)) (λ e. rw (e, same))
same_snoc [] (y ∷ ys) a b h = absurd (omega arith)
same_snoc (x ∷ xs) [] a b h = absurd (omega arith)
same_snoc (x ∷ xs) (y ∷ ys) a b h =
    let on = same_snoc xs ys a b (omega arith) in by_test (eqb x y) (λ e. rw (e, same) on) (λ e. rw (e, same))

-- a test of n bytes from the places i and j on, and of the next, is one of n + 1 bytes
pub same_next : (s t : List ℕ) (i j n : ℕ) (all : Bool) → i + n < length s → j + n < length t
    → all ≡ same (take n (drop i s)) (take n (drop j t))
    → all && eqb (get_or s (i + n) 0) (get_or t (j + n) 0) ≡ same (take (n + 1) (drop i s)) (take (n + 1) (drop j t))
same_next s t i j n all h k e =
    let l : n < length (drop i s) = rw (length-drop i s) (omega arith) in
    let m : n < length (drop j t) = rw (length-drop j t) (omega arith) in
    let q : length (take n (drop i s)) ≡ length (take n (drop j t)) = omega (arith, length-take n (drop i s), length-take n (drop j t)) in
    rw e
    (sym
    (rw (add-one, take-suc (drop i s) n 0 l, take-suc (drop j t) n 0 m, get_or-drop i s n 0, get_or-drop j t n 0)
    (same_snoc (take n (drop i s)) (take n (drop j t)) (get_or s (i + n) 0) (get_or t (j + n) 0) q)))

-- the test of n bytes, by how many are left
module _ (n : ℕ) (xs ys : List ℕ) where
  -- The test of `n` bytes fails where the first list has fewer.
  pub few_first : length xs < n → false ≡ alike n xs ys
  unfolding alike
  few_first h = rw (lt-leb n (length xs) h)

  -- It fails where the first list has `n` bytes and the second has fewer.
  pub few_second : n ≤ length xs → length ys < n → false ≡ alike n xs ys
  unfolding alike
  few_second h k = rw (le-leb n (length xs) h, lt-leb n (length ys) k)

  -- It fails where the first `n` bytes of the one list are not those of the other.
  pub not_same : n ≤ length xs → n ≤ length ys → same (take n xs) (take n ys) ≡ false → false ≡ alike n xs ys
  unfolding alike
  not_same h k e = rw (le-leb n (length xs) h, le-leb n (length ys) k, e)

  -- Where these bytes are the same, it asks whether each of them is neither a quotation mark nor a backslash.
  pub enough : n ≤ length xs → n ≤ length ys → same (take n xs) (take n ys) ≡ true → every is_unmarked (take n xs) ≡ alike n xs ys
  unfolding alike
  enough h k e = rw (le-leb n (length xs) h, le-leb n (length ys) k, e)

-- what the two loops that compare keep at i and j
abbrev pub Both : (P Q : List ℕ → Type 0) (s : List ℕ) (i : ℕ) (t : List ℕ) (j : ℕ) → Type 0
Both P Q s i t j = Inside s i × Inside t j × Tracks P Q (InString s i) (InString t j)

module _ (s t : List ℕ) (i j : ℕ) where
  -- Where nothing is passed, the order is the one from the start.
  pub both_start : Inside s i → Inside t j → Both (InString s i) (InString t j) s i t j
  both_start p q = (p, q, λ x y u v. (x, y, u, v, refl))

  -- What is the order of the contents from the places reached on is the order of the whole contents.
  pub told : {P Q : List ℕ → Type 0} {r : Ordering} → Both P Q s i t j
      → ((x y : List ℕ) → InString s i x → InString t j y → r ≡ order x y) → (x y : List ℕ) → P x → Q y → r ≡ order x y
  told b f x y p q = let k = b.2 x y p q in f k.0 k.1 k.2 k.3 ∙ sym k.4

-- n bytes that are alike
module _ (s t : List ℕ) (i j n : ℕ) (e : alike n (drop i s) (drop j t) ≡ true) where
  parts : (n ≤ length (drop i s)) × (take n (drop i s) ≡ take n (drop j t)) × (every is_unmarked (take n (drop i s)) ≡ true)
  unfolding alike
  parts =
      let p = (and-eq-true_iff (leb n (length (drop i s)) && leb n (length (drop j t))) (same (take n (drop i s)) (take n (drop j t))
      && every is_unmarked (take n (drop i s)))).0 e in
      let q = (and-eq-true_iff (leb n (length (drop i s))) (leb n (length (drop j t)))).0 p.0 in
      let r = (and-eq-true_iff (same (take n (drop i s)) (take n (drop j t))) (every is_unmarked (take n (drop i s)))).0 p.1 in
      (leb-true n (length (drop i s)) q.0, same_eq (take n (drop i s)) (take n (drop j t)) r.0, r.1)

  equal_at : (m : ℕ) → m < n → get_or s (i + m) 0 ≡ get_or t (j + m) 0
  equal_at m h =
      sym (get_or-take n (drop i s) m 0 h ∙ get_or-drop i s m 0)
      ∙ ap (λ (l : List ℕ). get_or l m 0) parts.1
      ∙ (get_or-take n (drop j t) m 0 h ∙ get_or-drop j t m 0)

  -- A run of `n` bytes that are alike ends within the first text.
  pub fits : i ≤ length s → i + n ≤ length s
  fits h = let l = rw (length-drop i s) at parts.0 in omega arith

  -- both go on behind them
  module _ (P Q : List ℕ → Type 0) (b : Both P Q s i t j) where
    upto : (m : ℕ) → m ≤ n → Both P Q s (i + m) t (j + m)
    upto zero h = subst₂ (λ (k l : ℕ). Both P Q s k t l) (sym (add-zero i)) (sym (add-zero j)) b
    upto (suc m) h =
        let c = upto m (omega arith) in
        let w = unmarked_at s i n parts.0 parts.2 m (omega arith) in
        let q = equal_at m (omega arith) in
        let next : (k : ℕ) → k + m + 1 ≡ k + suc m = λ k. omega arith in
        subst₂ (λ (k l : ℕ). Both P Q s k t l) (next i) (next j) (
          inside_next s (i + m) c.0 w.0 w.1,
          inside_next t (j + m) c.1 (λ z. w.0 (q ∙ z)) (λ z. w.1 (q ∙ z)),
          both_plain s t (i + m) (j + m) c.2 w.1 (λ z. w.1 (q ∙ z)) q w.0,
        )

    -- After a run of bytes that are alike, both positions are inside strings, and the order is still the one from the start.
    pub past : Both P Q s (i + n) t (j + n)
    past = upto n (omega arith)
