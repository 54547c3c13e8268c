-- Several bytes of a part at once: they stand for themselves, and none is a `/`.
-- Assumes nothing.
use Prim.Native.Nat.{ℕ, zero, suc, ◌+◌, ◌-◌, ◌<◌, ◌≤◌}
use mathlib.Core.Path.{◌≡◌, refl, sym, ap, subst, ◌∙◌}
use mathlib.Core.List.{List, [], ◌∷◌, ◌++◌, append_assoc}
use mathlib.Core.Bool.{Bool, true, false, not, ◌&&◌, and-eq-true_iff}
use native.Mathlib.Omega.{arith}
use native.Mathlib.Nat.{add-zero}
use borrow.Author.Tests.{leb-true, le-leb, lt-leb, eqb-false, not-true}
use lib.Dec.{leb, eqb}
use lib.ListN.{length, take, drop, get_or, length-drop, length-take, length-append}
use lib.Seq.{take-suc, get_or-drop, append_snoc}
use Rattle.text_chars.specs.Measure.{every, is_not, is_unmarked}
use Rattle.text_chars.proofs.Plain.{unmarked_at}
use Rattle.text_strings.specs.InString.{Inside, content_from}
use Rattle.text_strings.proofs.Positions.{goes_on as over_byte}
use Rattle.reference_parts.specs.Hex.{is_lower_hex}
use Rattle.reference_parts.specs.Parts.{is_divided, is_block}
use Rattle.reference_parts.specs.Readings.{StartAt}
use Rattle.reference_parts.specs.declared.part.Start.{Start}
use Rattle.reference_parts.proofs.Counting.{DigitsCounted, every_append, divided_on, divided_append}

-- the test, by how many bytes are left
pub few_left : (n : ℕ) (s : List ℕ) → length s < n → false ≡ is_block n s
unfolding is_block
few_left n s h = rw (lt-leb n (length s) h)

-- At least n bytes are a block exactly if none of the first n is a quotation mark, a backslash or a `/`.
pub enough_left : (n : ℕ) (s : List ℕ) → n ≤ length s → every is_unmarked (take n s) && every (is_not 0x2F) (take n s) ≡ is_block n s
unfolding is_block
enough_left n s h = rw (le-leb n (length s) h)

-- A block of n bytes has that many at least, and none of the first n is a quotation mark, a backslash or a `/`.
pub block : (n : ℕ) (s : List ℕ) → is_block n s ≡ true → (n ≤ length s) × (every is_unmarked (take n s) ≡ true) × (every (is_not 0x2F) (take n s) ≡ true)
unfolding is_block
block n s e =
    let p = (and-eq-true_iff (leb n (length s)) (every is_unmarked (take n s) && every (is_not 0x2F) (take n s))).0 e in
    let q = (and-eq-true_iff (every is_unmarked (take n s)) (every (is_not 0x2F) (take n s))).0 p.1 in
    (leb-true n (length s) p.0, q.0, q.1)

-- bytes that are no `/`
no_divider : (xs : List ℕ) → every (is_not 0x2F) xs ≡ true → is_divided xs ≡ false
unfolding every is_not is_divided
no_divider [] e = refl
no_divider (x ∷ xs) e =
    let p = (and-eq-true_iff (not (eqb x 0x2F)) (every (is_not 0x2F) xs)).0 e in
    divided_on x xs (eqb-false x 0x2F (not-true (eqb x 0x2F) p.0)) ∙ no_divider xs p.1

-- n bytes of a text that end no string and begin no escape are n bytes of the content
module _ (s : List ℕ) (k n : ℕ) (h : n ≤ length (drop k s)) (e : every is_unmarked (take n (drop k s)) ≡ true) where
  -- In a string, the first `m` of these bytes are the start of the content, and the string goes on behind them.
  pub upto : Inside s k → (m : ℕ) → m ≤ n → (content_from s k ≡ take m (drop k s) ++ content_from s (k + m)) × Inside s (k + m)
  upto p zero l = (ap (content_from s) (sym (add-zero k)), subst (Inside s) (sym (add-zero k)) p)
  upto p (suc m) l =
      let q = upto p m (omega arith) in
      let u = unmarked_at s k n h e m (omega arith) in
      let g = over_byte s (k + m) q.1 u.0 u.1 in
      let w : m < length (drop k s) = omega arith in
      let f : k + m + 1 ≡ k + suc m = omega arith in (
        q.0
            ∙ ap (λ (l : List ℕ). take m (drop k s) ++ l) g.0
            ∙ sym (append_snoc (take m (drop k s)) (get_or s (k + m) 0) (content_from s (k + m + 1)))
            ∙ ap (λ (x : ℕ). (take m (drop k s) ++ (x ∷ [])) ++ content_from s (k + m + 1)) (sym (get_or-drop k s m 0))
            ∙ ap (λ (l : List ℕ). l ++ content_from s (k + m + 1)) (sym (take-suc (drop k s) m 0 w))
            ∙ ap (λ (j : ℕ). take (suc m) (drop k s) ++ content_from s j) f,
        subst (Inside s) f g.1,
      )

-- what the loop over such bytes keeps
pub nothing_yet : (s : List ℕ) (i : ℕ) → Inside s i → StartAt s i (record { next = i; hex = true })
unfolding is_divided every
nothing_yet s i p =
    record { bytes = []; begins = refl; inside = p; size = sym (add-zero i); undivided = refl; hex = refl }

module _ (n : ℕ) (s : List ℕ) (i k : ℕ) (hex : Bool) (p : StartAt s i (record { next = k; hex = hex })) (e : is_block n (drop k s) ≡ true) where
  -- The bytes of a block lie within the text.
  pub within : k ≤ length s → k + n ≤ length s
  within h = let l = rw (length-drop k s) at (block n (drop k s) e).0 in omega arith

  -- The start of a part goes on over a block, and whether it is all digits is asked of those bytes too.
  pub block_more : (t : Bool) → t ≡ every is_lower_hex (take n (drop k s)) → StartAt s i (record { next = k + n; hex = hex && t })
  block_more t f =
      let b = block n (drop k s) e in
      let g = upto s k n b.0 b.1 p.inside n (omega arith) in
      let d = take n (drop k s) in
      let l : length d ≡ n = omega (arith, length-take n (drop k s), b.0) in
      record {
        bytes = p.bytes ++ d;
        begins = p.begins ∙ ap (λ (r : List ℕ). p.bytes ++ r) g.0 ∙ sym (append_assoc p.bytes d (content_from s (k + n)));
        inside = g.1;
        size = omega (arith, p.size, l, length-append p.bytes d);
        undivided = divided_append p.bytes d ∙ rw (p.undivided, no_divider d b.2);
        hex = rw (p.hex, f) (sym (every_append is_lower_hex p.bytes d));
      }

-- a loop over the part goes on behind them
pub begun : (s : List ℕ) (i : ℕ) (b : Start) → StartAt s i b → DigitsCounted (content_from s i) (content_from s b.next) (b.next - i) b.hex
begun s i b p =
    record { done = p.bytes; content = p.begins; undivided = p.undivided; size = omega (arith, p.size); digits = p.hex }
