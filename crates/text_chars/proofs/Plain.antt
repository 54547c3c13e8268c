-- Runs of bytes that stand for themselves: where one ends, and what it weighs.
-- Assumes nothing.
use Prim.Native.Nat.{ℕ, zero, suc, ◌+◌, ◌-◌, ◌≤◌, ◌<◌}
use native.Mathlib.Nat.{zero-add}
use native.Mathlib.Numerals.{add-one, one-add}
use native.Mathlib.Omega.{arith}
use mathlib.Core.Path.{◌≡◌, refl, ap, sym, ◌∙◌}
use mathlib.Core.List.{List, [], ◌∷◌, ◌++◌}
use mathlib.Core.Bool.{Bool, true, false, not, ◌&&◌, or-false, and-true, and_assoc, and-eq-true_iff}
use borrow.Author.Tests.{leb-true, le-leb, lt-leb, eqb-false, ne_eqb, not-true}
use lib.Dec.{leb, eqb, leb-zero, leb-suc-zero, leb-suc-suc}
use lib.ListN.{length, take, drop, get_or, length-drop, length-take, drop_of_length-le}
use lib.Seq.{take-suc, get_or-drop, get_or-take, drop-drop}
use Rattle.text_json.specs.Read.{Read, read_chars, char}
use Rattle.text_json.specs.Bytes.{is_plain}
use Rattle.text_chars.specs.Measure.{Weight, measure, add, plain_length, every, is_not, is_unmarked, unmarked_run}
use Rattle.text_chars.proofs.CharSteps.{char_plain}
use Rattle.text_json.proofs.Grammar.Answer.{by_test}
use Rattle.text_json.proofs.Places.{drop_next}
use Rattle.text_chars.proofs.Weights.{add_add, add_none, measure_plain}

-- what is known of a plain byte
pub record Itself (b : ℕ) : Type 0 where
  pub no_control : 0x20 ≤ b
  pub no_mark : b ≡ 0x22 → ⊥
  pub no_escape : b ≡ 0x5C → ⊥
  pub no_delete : b ≡ 0x7F → ⊥

-- A plain byte is at least 20 (hex), and it is no quotation mark, no backslash and not 7F (hex).
pub itself : (b : ℕ) → is_plain b ≡ true → Itself b
unfolding is_plain
itself b e =
    let p = (and-eq-true_iff ((leb 0x20 b && not (eqb b 0x22)) && not (eqb b 0x5C)) (not (eqb b 0x7F))).0 e in
    let q = (and-eq-true_iff (leb 0x20 b && not (eqb b 0x22)) (not (eqb b 0x5C))).0 p.0 in
    let r = (and-eq-true_iff (leb 0x20 b) (not (eqb b 0x22))).0 q.0 in
    record {
      no_control = leb-true 0x20 b r.0;
      no_mark = eqb-false b 0x22 (not-true (eqb b 0x22) r.1);
      no_escape = eqb-false b 0x5C (not-true (eqb b 0x5C) q.1);
      no_delete = eqb-false b 0x7F (not-true (eqb b 0x7F) p.1);
    }

and_swap : (a b c d : Bool) → (a && b) && (c && d) ≡ (a && c) && (b && d)
and_swap true true c d = refl
and_swap true false true d = refl
and_swap true false false d = refl
and_swap false b c d = refl

module _ (p : ℕ → Bool) where
  every_snoc : (xs : List ℕ) (a : ℕ) → every p (xs ++ (a ∷ [])) ≡ every p xs && p a
  unfolding every
  every_snoc [] a = and-true (p a)
  every_snoc (x ∷ xs) a = ap (λ (t : Bool). p x && t) (every_snoc xs a) ∙ sym (and_assoc (p x) (every p xs) (p a))

  -- a test of n bytes from the place i on and of the next is one of n + 1 bytes
  pub every_next : (s : List ℕ) (i n : ℕ) (all : Bool) → i + n < length s → all ≡ every p (take n (drop i s))
      → all && p (get_or s (i + n) 0) ≡ every p (take (n + 1) (drop i s))
  every_next s i n all h e =
      let l : n < length (drop i s) = rw (length-drop i s) (omega arith) in
      rw e (sym (rw (add-one, take-suc (drop i s) n 0 l, get_or-drop i s n 0) (every_snoc (take n (drop i s)) (get_or s (i + n) 0))))

  -- two tests at once
  pub every_both : (q r : ℕ → Bool) → ((b : ℕ) → r b ≡ p b && q b) → (xs : List ℕ) → every p xs && every q xs ≡ every r xs
  unfolding every
  every_both q r h [] = refl
  every_both q r h (x ∷ xs) =
      and_swap (p x) (every p xs) (q x) (every q xs)
      ∙ ap (λ (t : Bool). (p x && q x) && t) (every_both q r h xs)
      ∙ ap (λ (t : Bool). t && every r xs) (sym (h x))

-- a test that holds of each byte of a list holds of one
pub every_at : (p : ℕ → Bool) (xs : List ℕ) (n : ℕ) → every p xs ≡ true → n < length xs → p (get_or xs n 0) ≡ true
unfolding every
every_at p [] n e h = absurd (omega arith)
every_at p (x ∷ xs) zero e h = ((and-eq-true_iff (p x) (every p xs)).0 e).0
every_at p (x ∷ xs) (suc n) e h = every_at p xs n ((and-eq-true_iff (p x) (every p xs)).0 e).1 (omega arith)

-- the two tests of an unmarked byte
pub every_unmarked : (xs : List ℕ) → every (is_not 0x22) xs && every (is_not 0x5C) xs ≡ every is_unmarked xs
unfolding is_not is_unmarked
every_unmarked xs = every_both (is_not 0x22) (is_not 0x5C) is_unmarked (λ b. refl) xs

-- An unmarked byte is neither a quotation mark nor a backslash.
pub unmarked : (b : ℕ) → is_unmarked b ≡ true → (b ≡ 0x22 → ⊥) × (b ≡ 0x5C → ⊥)
unfolding is_unmarked
unmarked b e =
    let p = (and-eq-true_iff (not (eqb b 0x22)) (not (eqb b 0x5C))).0 e in
    (eqb-false b 0x22 (not-true (eqb b 0x22) p.0), eqb-false b 0x5C (not-true (eqb b 0x5C) p.1))

-- Where each of `n` bytes of a text is unmarked, the byte at each place among them is neither a quotation mark nor a backslash.
pub unmarked_at : (s : List ℕ) (i n : ℕ) → n ≤ length (drop i s) → every is_unmarked (take n (drop i s)) ≡ true
    → (m : ℕ) → m < n → (get_or s (i + m) 0 ≡ 0x22 → ⊥) × (get_or s (i + m) 0 ≡ 0x5C → ⊥)
unmarked_at s i n h e m l =
    let w : m < length (take n (drop i s)) = omega (arith, length-take n (drop i s)) in
    unmarked (get_or s (i + m) 0) (rw (get_or-take n (drop i s) m 0 l, get_or-drop i s m 0) at (every_at is_unmarked (take n (drop i s)) m e w))

-- the test of n unmarked bytes, by how many are left
module _ (n : ℕ) (xs : List ℕ) where
  -- The test of `n` bytes fails where fewer are left.
  pub unmarked_short : length xs < n → false ≡ unmarked_run n xs
  unfolding unmarked_run
  unmarked_short h = rw (lt-leb n (length xs) h)

  -- Where `n` bytes are left, the test asks whether each of them is neither a quotation mark nor a backslash.
  pub unmarked_enough : n ≤ length xs → every is_unmarked (take n xs) ≡ unmarked_run n xs
  unfolding unmarked_run
  unmarked_enough h = rw (le-leb n (length xs) h)

  -- A run of `n` unmarked bytes has that many, and each of them is unmarked.
  pub unmarked_parts : unmarked_run n xs ≡ true → (n ≤ length xs) × (every is_unmarked (take n xs) ≡ true)
  unfolding unmarked_run
  unmarked_parts e =
      let p = (and-eq-true_iff (leb n (length xs)) (every is_unmarked (take n xs))).0 e in
      (leb-true n (length xs) p.0, p.1)

-- the four tests of a plain byte, each made of all bytes
pub every_plain : (xs : List ℕ)
    → ((every (leb 0x20) xs && every (is_not 0x22) xs) && every (is_not 0x5C) xs) && every (is_not 0x7F) xs ≡ every is_plain xs
unfolding is_plain is_not
every_plain xs =
    ap (λ (t : Bool). (t && every (is_not 0x5C) xs) && every (is_not 0x7F) xs)
    (every_both (leb 0x20) (is_not 0x22) (λ b. leb 0x20 b && not (eqb b 0x22)) (λ b. refl) xs)
    ∙ ap (λ (t : Bool). t && every (is_not 0x7F) xs)
    (every_both (λ b. leb 0x20 b && not (eqb b 0x22)) (is_not 0x5C) (λ b. (leb 0x20 b && not (eqb b 0x22)) && not (eqb b 0x5C)) (λ b. refl) xs)
    ∙ every_both (λ b. (leb 0x20 b && not (eqb b 0x22)) && not (eqb b 0x5C)) (is_not 0x7F) is_plain (λ b. refl) xs

-- A list whose first byte is not plain begins with no plain bytes.
pub plain_none : (b : ℕ) (xs : List ℕ) → is_plain b ≡ false → plain_length (b ∷ xs) ≡ 0
unfolding plain_length
plain_none b xs e = rw (e, plain_length)

-- A list whose first byte is plain begins with one plain byte more than the list after it.
pub plain_one : (b : ℕ) (xs : List ℕ) → is_plain b ≡ true → plain_length (b ∷ xs) ≡ suc (plain_length xs)
unfolding plain_length
plain_one b xs e = rw (e, plain_length)

-- n plain bytes, and those that follow
plain_past : (n : ℕ) (xs : List ℕ) → n ≤ plain_length xs → plain_length xs ≡ n + plain_length (drop n xs)
unfolding plain_length
plain_past zero xs h = rw zero-add
plain_past (suc n) [] h = absurd (omega arith)
plain_past (suc n) (x ∷ xs) h =
    by_test (is_plain x)
    (λ e. let o = plain_one x xs e in let rest = plain_past n xs (omega arith) in o ∙ omega arith)
    (λ e. absurd (omega (arith, plain_none x xs e)))

-- A list begins with at most as many plain bytes as it has bytes.
pub plain_fits : (xs : List ℕ) → plain_length xs ≤ length xs
unfolding plain_length
plain_fits [] = omega arith
plain_fits (x ∷ xs) =
    let rest = plain_fits xs in
    by_test (is_plain x) (λ e. rw (plain_one x xs e) (omega arith)) (λ e. rw (plain_none x xs e) (omega arith))

-- A list of fewer than `n` bytes does not begin with `n` plain ones.
pub run_short : (n : ℕ) (xs : List ℕ) → length xs < n → false ≡ leb n (plain_length xs)
run_short n xs h = sym (lt-leb n (plain_length xs) (omega (arith, plain_fits xs)))

-- A list of at least `n` bytes begins with `n` plain ones exactly if each of its first `n` bytes is plain.
pub run_enough : (n : ℕ) (xs : List ℕ) → n ≤ length xs → every is_plain (take n xs) ≡ leb n (plain_length xs)
unfolding every
run_enough zero xs h = sym (leb-zero (plain_length xs))
run_enough (suc n) [] h = absurd (omega arith)
run_enough (suc n) (x ∷ xs) h =
    by_test (is_plain x)
    (λ e. rw (plain_one x xs e, e, leb-suc-suc n (plain_length xs)) (run_enough n xs (omega arith)))
    (λ e. rw (plain_none x xs e, e, leb-suc-zero n))

-- each byte of a run is plain
pub plain_at : (n : ℕ) (xs : List ℕ) → n < plain_length xs → Itself (get_or xs n 0)
unfolding plain_length
plain_at n [] h = absurd (omega arith)
plain_at zero (x ∷ xs) h = by_test (is_plain x) (itself x) (λ e. absurd (omega (arith, plain_none x xs e)))
plain_at (suc n) (x ∷ xs) h =
    by_test (is_plain x) (λ e. plain_at n xs (omega (arith, plain_one x xs e))) (λ e. absurd (omega (arith, plain_none x xs e)))

-- at a position of a text

-- Past the last byte of a text there are no plain bytes.
pub ends_after : (s : List ℕ) (i : ℕ) → length s ≤ i → plain_length (drop i s) ≡ 0
unfolding plain_length
ends_after s i h = rw drop_of_length-le

-- At a byte that is not plain, the run of plain bytes is empty.
pub ends_here : (s : List ℕ) (i : ℕ) → i < length s → is_plain (get_or s i 0) ≡ false → plain_length (drop i s) ≡ 0
ends_here s i h e = rw (drop_next s i h) (plain_none _ _ e)

-- At a plain byte, the run of plain bytes ends where the run from the next position ends.
pub goes_on : (s : List ℕ) (i : ℕ) → i < length s → is_plain (get_or s i 0) ≡ true → i + plain_length (drop i s) ≡ i + 1 + plain_length (drop (i + 1) s)
goes_on s i h e = let o = ap plain_length (drop_next s i h) ∙ plain_one (get_or s i 0) (drop (i + 1) s) e in omega arith

-- A run of plain bytes that begins at a position of a text ends within the text.
pub end_fits : (s : List ℕ) (i : ℕ) → i ≤ length s → i + plain_length (drop i s) ≤ length s
end_fits s i h = let o = rw (length-drop i s) at (plain_fits (drop i s)) in omega arith

-- Where `n` plain bytes stand, the position after them is within the text, and the run of plain bytes ends where the run from there ends.
pub goes_far : (s : List ℕ) (i n : ℕ) → i ≤ length s → leb n (plain_length (drop i s)) ≡ true
    → (i + n ≤ length s) × (i + plain_length (drop i s) ≡ i + n + plain_length (drop (i + n) s))
goes_far s i n h e =
    let l = leb-true n (plain_length (drop i s)) e in
    let o = rw (drop-drop n i s) at (plain_past n (drop i s) l) in
    (omega (arith, end_fits s i h), omega arith)

-- chars that are not refused, after others
pub add_plain : (f : Bool) (n m : ℕ) (x : Read Weight) → add f n (add false m x) ≡ add f (n + m) x
add_plain f n m x = rw (or-false f) at (add_add f false n m x)

-- what a run weighs: each of its bytes is one
weighs : (xs : List ℕ) → measure (read_chars char xs) ≡ add false (plain_length xs) (measure (read_chars char (drop (plain_length xs) xs)))
unfolding plain_length
weighs [] = add_none (measure (read_chars char []))
weighs (x ∷ xs) = by_test (is_plain x) (λ e. rw (plain_one x xs e) (
    let p = itself x e in
    rw (ne_eqb x 0x7F p.no_delete)
    at (ap measure (char_plain (x ∷ xs) 0 (omega arith) p.no_mark p.no_escape p.no_control)
    ∙ measure_plain x (read_chars char xs) p.no_mark p.no_escape p.no_control)
    ∙ ap (add false 1) (weighs xs)
    ∙ add_plain false 1 (plain_length xs) _
    ∙ rw one-add)) (λ e. rw (plain_none x xs e) (add_none (measure (read_chars char (x ∷ xs)))))

-- A run of plain bytes adds no refusal and its own length to the measure of the chars after it.
pub plain_run : (s : List ℕ) (i r : ℕ) → r ≡ i + plain_length (drop i s)
    → measure (read_chars char (drop i s)) ≡ add false (r - i) (measure (read_chars char (drop r s)))
plain_run s i r e =
    let m : r - i ≡ plain_length (drop i s) = omega arith in
    rw (m, e, ← drop-drop (plain_length (drop i s)) i s) (weighs (drop i s))
