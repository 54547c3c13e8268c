-- A digest's bytes by its digits, two at a time: what a loop keeps that writes them, and one that compares them.
-- Assumes nothing.
use Prim.Native.Nat.{ℕ, ◌+◌, ◌-◌, ◌*◌, ◌<◌, ◌≤◌}
use mathlib.Core.Path.{◌≡◌, refl, sym, ap, ◌∙◌}
use mathlib.Core.List.{List, [], ◌∷◌, ◌++◌, append_assoc, append-nil}
use mathlib.Core.Bool.{true, false, and-eq-true_iff}
use native.Mathlib.Omega.{arith}
use borrow.Author.Tests.{eqb-true, eqb-false, eq-eqb}
use lib.Dec.{eqb}
use lib.ListN.{length, drop, get_or, set, length-append, length-drop}
use lib.Seq.{set_at}
use Rattle.laws.specs.Order.{same}
use Rattle.laws.proofs.Order.{by_test}
use Rattle.text_json.specs.Bytes.{hex_value}
use Rattle.text_chars.specs.Measure.{every}
use Rattle.text_json.proofs.Places.{drop_next}
use Rattle.text_strings.specs.Cursor.{Left, GivesByte, held_bytes}
use Rattle.text_strings.specs.InString.{Inside, content_from}
use Rattle.text_strings.specs.declared.Cursor.{Cursor}
use Rattle.text_strings.specs.declared.Next.{Next}
use Rattle.text_strings.proofs.Contents.{content_from_is}
use Rattle.text_strings.proofs.Cursors.{given_end, given_byte, inside_within}
use Rattle.text_strings.proofs.Positions.{ends, goes_on}
use Rattle.reference_parts.specs.Hex.{is_lower_hex}
use Rattle.reference_parts.specs.Parts.{first_part}
use Rattle.reference_parts.proofs.Counting.{first_on, first_here, first_shorter, is_same, not_same}
use Rattle.reference_digests.specs.Algorithms.{digest_bytes, hex_digits}
use Rattle.reference_digests.specs.Digests.{is_digest, digest_of}
use Rattle.reference_digests.specs.Readings.{Digits, PlainPair}
use Rattle.reference_digests.specs.declared.algorithm.Algorithm.{Algorithm}
use Rattle.reference_digests.proofs.Digests.{digest_length}

-- what is left of a part that has a byte left
first_byte : (b : ℕ) (q : List ℕ) → 1 ≤ length (first_part (b ∷ q)) → first_part (b ∷ q) ≡ b ∷ first_part q
first_byte b q h =
    by_test (eqb b 0x2F)
    (λ e. absurd (omega (arith, ap length (first_here b q (eqb-true b 0x2F e)))))
    (λ e. first_on b q (eqb-false b 0x2F e))

-- the digits of a digest
pub digest_digits : (a : Algorithm) (c : List ℕ) → is_digest a (first_part c) ≡ true → Digits c (digest_bytes a)
unfolding is_digest
digest_digits a c e =
    let p = (and-eq-true_iff (eqb (length (first_part c)) (hex_digits a)) (every is_lower_hex (first_part c))).0 e in
    let l = eqb-true (length (first_part c)) (hex_digits a) p.0 in
    record { size = omega arith; digits = p.1 }

empty : (xs : List ℕ) → length xs ≡ 0 → xs ≡ []
empty [] h = refl
empty (x ∷ xs) h = absurd (omega arith)

-- no digits stand for no bytes
pub no_digits : (r : List ℕ) (m : ℕ) → Digits r m → m ≡ 0 → digest_of (first_part r) ≡ []
unfolding digest_of
no_digits r m p e = ap digest_of (empty (first_part r) (omega (arith, p.size)))

-- two digits stand for the first byte
module _ (r : List ℕ) (m : ℕ) (p : Digits r m) (h : 1 ≤ m) where
  digits_left : 2 ≤ length r
  digits_left = omega (arith, p.size, first_shorter r)

  module _ (x y : ℕ) (q : List ℕ) (e : r ≡ x ∷ y ∷ q) where
    -- both belong to the part
    part : first_part r ≡ x ∷ y ∷ first_part q
    part =
        let a : first_part (x ∷ y ∷ q) ≡ x ∷ first_part (y ∷ q) = first_byte x (y ∷ q) (omega (arith, p.size, ap length (ap first_part e))) in
        let b : first_part (y ∷ q) ≡ y ∷ first_part q = first_byte y q (omega (arith, p.size, ap length (ap first_part e), ap length a)) in
        ap first_part e ∙ a ∙ ap (λ (l : List ℕ). x ∷ l) b

    tests : (is_lower_hex x ≡ true) × (is_lower_hex y ≡ true) × (every is_lower_hex (first_part q) ≡ true)
    unfolding every
    tests =
        let u = (and-eq-true_iff (is_lower_hex x) (every is_lower_hex (y ∷ first_part q))).0 (sym (ap (every is_lower_hex) part) ∙ p.digits) in
        let v = (and-eq-true_iff (is_lower_hex y) (every is_lower_hex (first_part q))).0 u.1 in
        (u.0, v.0, v.1)

    are_digits : (is_lower_hex x ≡ true) × (is_lower_hex y ≡ true)
    are_digits = (tests.0, tests.1)

    digits_after : (l : ℕ) → l + 1 ≡ m → Digits q l
    digits_after l f = record { size = omega (arith, p.size, ap length part); digits = tests.2 }

    first_of_digest : digest_of (first_part r) ≡ (hex_value x * 16 + hex_value y) ∷ digest_of (first_part q)
    unfolding digest_of
    first_of_digest = ap digest_of part

-- Of the digest w, which has n bytes, the first k are written, and of the content r is left.
pub record Writing (w r : List ℕ) (n k : ℕ) (before out : List ℕ) : Type 0 where
  pub done : List ℕ
  pub size : length done ≡ k
  pub buffer : out ≡ done ++ drop k before
  pub digest : done ++ digest_of (first_part r) ≡ digest_of w
  pub few : k ≤ n
  pub left : Digits r (n - k)

-- At the start no byte of the digest is written, and all its digits are left.
pub nothing_written : (a : Algorithm) (c before : List ℕ) → is_digest a (first_part c) ≡ true → Writing (first_part c) c (digest_bytes a) 0 before before
nothing_written a c before e =
    let d = digest_digits a c e in
    record {
      done = [];
      size = refl;
      buffer = refl;
      digest = refl;
      few = omega arith;
      left = record { size = omega (arith, d.size); digits = d.digits };
    }

module _ (w r : List ℕ) (n k : ℕ) (before out : List ℕ) (p : Writing w r n k before out) where
  -- all is written
  pub all_written : n ≤ k → out ≡ digest_of w ++ drop n before
  all_written h =
      let e : k ≡ n = omega (arith, p.few) in
      let f : digest_of (first_part r) ≡ [] = no_digits r (n - k) p.left (omega arith) in
      p.buffer
      ∙ ap (λ (j : ℕ). p.done ++ drop j before) e
      ∙ ap (λ (d : List ℕ). d ++ drop n before) (sym (append-nil p.done) ∙ ap (λ (x : List ℕ). p.done ++ x) (sym f) ∙ p.digest)

  -- The buffer keeps its length.
  pub kept_length : n ≤ length before → length out ≡ length before
  kept_length h =
      omega (arith, ap length p.buffer, length-append p.done (drop k before), p.size, length-drop k before, p.few)

  -- two digits more
  module _ (h : k < n) where
    some : 1 ≤ n - k
    some = omega arith

    -- Where bytes of the digest are not yet written, at least two bytes of the content are left.
    pub some_left : 2 ≤ length r
    some_left = digits_left r (n - k) p.left some

    module _ (x y : ℕ) (q : List ℕ) (e : r ≡ x ∷ y ∷ q) where
      -- The next two bytes of the content are lower-case hexadecimal digits.
      pub both_digits : (is_lower_hex x ≡ true) × (is_lower_hex y ≡ true)
      both_digits = are_digits r (n - k) p.left some x y q e

      -- With the byte that they stand for set at index `k`, one byte more of the digest is written.
      pub one_more : (b : ℕ) → b ≡ hex_value x * 16 + hex_value y → k < length before → Writing w q n (k + 1) before (set out k b)
      one_more b f space =
          let here : drop k before ≡ get_or before k 0 ∷ drop (k + 1) before = drop_next before k space in
          record {
            done = p.done ++ (b ∷ []);
            size = omega (arith, p.size, length-append p.done (b ∷ []));
            buffer =
                ap (λ (l : List ℕ). set l k b) (p.buffer ∙ ap (λ (l : List ℕ). p.done ++ l) here)
                ∙ set_at p.done _ _ b k p.size
                ∙ sym (append_assoc p.done (b ∷ []) (drop (k + 1) before));
            digest =
                append_assoc p.done (b ∷ []) (digest_of (first_part q))
                ∙ ap (λ (c : ℕ). p.done ++ c ∷ digest_of (first_part q)) f
                ∙ ap (λ (l : List ℕ). p.done ++ l) (sym (first_of_digest r (n - k) p.left some x y q e))
                ∙ p.digest;
            few = omega arith;
            left = digits_after r (n - k) p.left some x y q e (n - (k + 1)) (omega arith);
          }

-- The digits left in r are compared with the bytes from k on.
module _ (r bytes : List ℕ) (k : ℕ) (p : Digits r (length bytes - k)) where
  -- Where `k` is past the last byte, what the digits left stand for is equal to the bytes left.
  pub all_compared : length bytes ≤ k → true ≡ same (digest_of (first_part r)) (drop k bytes)
  unfolding same
  all_compared h =
      let l : length (drop k bytes) ≡ 0 = omega (arith, length-drop k bytes) in
      is_same _ _ (no_digits r (length bytes - k) p (omega arith) ∙ sym (empty (drop k bytes) l))

  module _ (h : k < length bytes) where
    some_bytes : 1 ≤ length bytes - k
    some_bytes = omega arith

    -- Where bytes are left to compare, at least two bytes of the content are left.
    pub pair_left : 2 ≤ length r
    pair_left = digits_left r (length bytes - k) p some_bytes

    module _ (x y : ℕ) (q : List ℕ) (e : r ≡ x ∷ y ∷ q) where
      -- The next two bytes of the content are lower-case hexadecimal digits.
      pub pair_digits : (is_lower_hex x ≡ true) × (is_lower_hex y ≡ true)
      pair_digits = are_digits r (length bytes - k) p some_bytes x y q e

      -- After those two, the digits of one byte less are left.
      pub pair_after : Digits q (length bytes - (k + 1))
      pair_after = digits_after r (length bytes - k) p some_bytes x y q e (length bytes - (k + 1)) (omega arith)

      module _ (b : ℕ) (f : b ≡ hex_value x * 16 + hex_value y) where
        -- both lists begin with a byte
        at_byte : same (digest_of (first_part r)) (drop k bytes) ≡ same (b ∷ digest_of (first_part q)) (get_or bytes k 0 ∷ drop (k + 1) bytes)
        at_byte =
            ap (λ (l : List ℕ). same l (drop k bytes))
            (first_of_digest r (length bytes - k) p some_bytes x y q e ∙ ap (λ (c : ℕ). c ∷ digest_of (first_part q)) (sym f))
            ∙ ap (same (b ∷ digest_of (first_part q))) (drop_next bytes k h)

        -- Where the byte that they stand for is not the next byte, what the digits left stand for is not equal to the bytes left.
        pub byte_differs : (b ≡ get_or bytes k 0 → ⊥) → false ≡ same (digest_of (first_part r)) (drop k bytes)
        byte_differs n = sym (at_byte ∙ sym (not_same _ _ (λ g. n (cc))))

        -- Where it is the next byte, comparing what is left has the same answer as comparing what is left after that byte.
        pub byte_same : b ≡ get_or bytes k 0 → same (digest_of (first_part q)) (drop (k + 1) bytes) ≡ same (digest_of (first_part r)) (drop k bytes)
        unfolding same
        byte_same g = sym (at_byte ∙ rw (eq-eqb b (get_or bytes k 0) g, same))

-- a digest of another length
pub other_bytes : (a : Algorithm) (c bytes : List ℕ) → is_digest a (first_part c) ≡ true → (length bytes ≡ digest_bytes a → ⊥)
    → false ≡ same (digest_of (first_part c)) bytes
other_bytes a c bytes e n =
    not_same (digest_of (first_part c)) bytes (λ q. n (sym (ap length q) ∙ digest_length a (first_part c) e))

-- the next byte of a content that is not empty, before a cursor
pub next_byte : (s c : List ℕ) (n : Next) → GivesByte s c n → 1 ≤ length c → (d : List ℕ) × (c ≡ n.byte ∷ d) × Left s n.rest d
next_byte s c n g h =
    by_test n.found
    (λ e. given_byte s c n e g)
    (λ e. absurd (omega (arith, ap length (given_end s c n e g))))

-- Of a content of at least two bytes a cursor gives the first two, one after the other, and the rest lies before it.
pub next_bytes : (s r : List ℕ) (x y : Next) → GivesByte s r x → ((d : List ℕ) → Left s x.rest d → GivesByte s d y) → 2 ≤ length r
    → (q : List ℕ) × (r ≡ x.byte ∷ y.byte ∷ q) × Left s y.rest q
next_bytes s r x y g f h =
    let a = next_byte s r x g (omega arith) in
    let b = next_byte s a.0 y (f a.0 a.2) (omega (arith, ap length a.1)) in
    (b.0, a.1 ∙ ap (λ (l : List ℕ). x.byte ∷ l) b.1, b.2)

-- two bytes are left of a list, and those bytes
pub two_within : (s : List ℕ) (j : ℕ) → 2 ≤ length (drop j s) → j + 1 < length s
two_within s j h = omega (arith, length-drop j s)

-- From a position with another one after it in the list, the list goes on with the two bytes there and what is after them.
pub next_two : (s : List ℕ) (j : ℕ) → j + 1 < length s → drop j s ≡ get_or s j 0 ∷ get_or s (j + 1) 0 ∷ drop (j + 2) s
next_two s j h =
    let e : j + 1 + 1 ≡ j + 2 = omega arith in
    drop_next s j (omega arith) ∙ ap (λ (l : List ℕ). get_or s j 0 ∷ l) (drop_next s (j + 1) h ∙ ap (λ (m : ℕ). get_or s (j + 1) 0 ∷ drop m s) e)

-- one content lies before a cursor
pub left_same : (s : List ℕ) (k : Cursor) (c d : List ℕ) → Left s k c → Left s k d → c ≡ d
left_same s k c d p q =
    p.content
    ∙ ap (λ (l : List ℕ). held_bytes k ++ l) (sym (content_from_is s k.at p.tail p.inside) ∙ content_from_is s k.at q.tail q.inside)
    ∙ sym q.content

-- two bytes of a string's content that stand for themselves
module _ (s : List ℕ) (j : ℕ) (p : Inside s j) (l : 2 ≤ length (content_from s j)) where
  -- A position that stands in a string lies within the text.
  pub byte_within : j < length s
  byte_within = inside_within s j p

  module _ (e : get_or s j 0 ≡ 0x5C → ⊥) where
    open_first : (content_from s j ≡ get_or s j 0 ∷ content_from s (j + 1)) × Inside s (j + 1)
    open_first = goes_on s j p (λ q. omega (arith, ap length (ends s j p q))) e

    -- Where the byte there is no backslash, the next position lies within the text too.
    pub next_within : j + 1 < length s
    next_within = inside_within s (j + 1) open_first.1

    -- Where neither of the two bytes is a backslash, both stand for themselves.
    pub plain_pair : (get_or s (j + 1) 0 ≡ 0x5C → ⊥) → PlainPair s j
    plain_pair f =
        let a = open_first in
        let b = goes_on s (j + 1) a.1 (λ q. omega (arith, ap length (ends s (j + 1) a.1 q), ap length a.0)) f in
        let n : j + 1 + 1 ≡ j + 2 = omega arith in
        record {
          begins = a.0 ∙ ap (λ (x : List ℕ). get_or s j 0 ∷ x) (b.0 ∙ ap (λ (m : ℕ). get_or s (j + 1) 0 ∷ content_from s m) n);
          inside = rw n at b.1;
        }
