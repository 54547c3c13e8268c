-- Counting the bytes of a part: the laws of the parts of a list, and what a loop keeps that reads up to the first `/`.
-- Assumes nothing.
use Prim.Native.Nat.{ℕ, ◌+◌, ◌%◌, ◌<◌, ◌≤◌}
use mathlib.Core.Path.{◌≡◌, refl, sym, ap, ◌∙◌}
use mathlib.Core.List.{List, [], ◌∷◌, ◌++◌, append-nil, append_assoc}
use mathlib.Core.Bool.{Bool, true, false, not, ◌&&◌, ◌||◌, and-true, and_assoc, or-true}
use native.Mathlib.Omega.{arith}
use native.Mathlib.Numerals.{add-one}
use borrow.Author.Tests.{le-leb, lt-leb, eq-eqb, ne_eqb, eqb-true, eqb-false, ltb-false}
use lib.Dec.{ltb, eqb}
use lib.ListN.{length, take, drop, get_or, length-append, length-take}
use lib.Seq.{take-suc, take_all, take-append_seam, append_snoc, length-take-le, get_or-take, get_or_at, drop-drop}
use Rattle.laws.specs.Order.{same}
use Rattle.laws.proofs.Order.{by_test, false_true, same_refl, same_eq}
use Rattle.text_utf8.specs.Scalar.{encode}
use Rattle.text_json.specs.Bytes.{between}
use Rattle.text_chars.specs.Measure.{every}
use Rattle.text_json.proofs.Places.{drop_next}
use Rattle.text_strings.specs.InString.{Inside, Escapes, content_from}
use Rattle.text_strings.proofs.Positions.{encode_length, ends, goes_on as over_byte, over_escape, not_longer}
use Rattle.reference_parts.specs.Hex.{is_lower_hex}
use Rattle.reference_parts.specs.Parts.{is_divided, first_part, after_part}
use Rattle.reference_parts.specs.Readings.{Counts, CharAt, PartAt}
use Rattle.reference_parts.specs.declared.part.Char.{Char}

-- a test of each byte, of two lists
-- A test holds of each byte of two lists together exactly if it holds of each byte of both.
pub every_append : (p : ℕ → Bool) (xs ys : List ℕ) → every p (xs ++ ys) ≡ every p xs && every p ys
unfolding every
every_append p [] ys = refl
every_append p (x ∷ xs) ys = ap (λ (t : Bool). p x && t) (every_append p xs ys) ∙ sym (and_assoc (p x) (every p xs) (every p ys))

-- one step of the definitions of the parts, at a `/` and at any other byte
module _ (b : ℕ) (s : List ℕ) where
  module _ (e : b ≡ 0x2F) where
    -- A list that begins with a `/` is divided.
    pub divided_here : is_divided (b ∷ s) ≡ true
    unfolding is_divided
    divided_here = rw (eq-eqb b 0x2F e, is_divided)

    -- Its first part is empty.
    pub first_here : first_part (b ∷ s) ≡ []
    unfolding first_part
    first_here = rw (eq-eqb b 0x2F e, first_part)

    -- What is after its first part is the rest of the list.
    pub after_here : after_part (b ∷ s) ≡ s
    unfolding after_part
    after_here = rw (eq-eqb b 0x2F e, after_part)

  module _ (n : b ≡ 0x2F → ⊥) where
    -- A list that begins with another byte is divided exactly if the rest is.
    pub divided_on : is_divided (b ∷ s) ≡ is_divided s
    unfolding is_divided
    divided_on = rw (ne_eqb b 0x2F n, is_divided)

    -- Its first part is that byte and the first part of the rest.
    pub first_on : first_part (b ∷ s) ≡ b ∷ first_part s
    unfolding first_part
    first_on = rw (ne_eqb b 0x2F n, first_part)

    -- What is after its first part is what is after the first part of the rest.
    pub after_on : after_part (b ∷ s) ≡ after_part s
    unfolding after_part
    after_on = rw (ne_eqb b 0x2F n, after_part)

-- either a byte is a `/` or it is none
by_byte : {C : Type 0} (b : ℕ) → (b ≡ 0x2F → C) → ((b ≡ 0x2F → ⊥) → C) → C
by_byte b f g = by_test (eqb b 0x2F) (λ e. f (eqb-true b 0x2F e)) (λ e. g (eqb-false b 0x2F e))

-- Two lists together are divided exactly if one of them is.
pub divided_append : (xs ys : List ℕ) → is_divided (xs ++ ys) ≡ is_divided xs || is_divided ys
unfolding is_divided
divided_append [] ys = refl
divided_append (x ∷ xs) ys =
    by_byte x
    (λ e. rw (divided_here x (xs ++ ys) e, divided_here x xs e))
    (λ n. rw (divided_on x (xs ++ ys) n, divided_on x xs n) (divided_append xs ys))

-- up to a `/`, and with no `/` at all
pub first_divided : (d r : List ℕ) → is_divided d ≡ false → first_part (d ++ 0x2F ∷ r) ≡ d
unfolding is_divided
first_divided [] r h = first_here 0x2F r refl
first_divided (b ∷ d) r h =
    by_byte b
    (λ e. false_true (sym h ∙ divided_here b d e))
    (λ n. first_on b (d ++ 0x2F ∷ r) n ∙ ap (λ (l : List ℕ). b ∷ l) (first_divided d r (sym (divided_on b d n) ∙ h)))

-- Where an undivided list is followed by a `/`, what is after the first part is what follows that `/`.
pub after_divided : (d r : List ℕ) → is_divided d ≡ false → after_part (d ++ 0x2F ∷ r) ≡ r
unfolding is_divided
after_divided [] r h = after_here 0x2F r refl
after_divided (b ∷ d) r h =
    by_byte b
    (λ e. false_true (sym h ∙ divided_here b d e))
    (λ n. after_on b (d ++ 0x2F ∷ r) n ∙ after_divided d r (sym (divided_on b d n) ∙ h))

-- A list with a `/` in it is divided.
pub is_divided_append : (d r : List ℕ) → is_divided (d ++ 0x2F ∷ r) ≡ true
is_divided_append d r = divided_append d (0x2F ∷ r) ∙ ap (λ (t : Bool). is_divided d || t) (divided_here 0x2F r refl) ∙ or-true (is_divided d)

-- The first part of an undivided list is the list.
pub first_whole : (d : List ℕ) → is_divided d ≡ false → first_part d ≡ d
unfolding first_part
first_whole [] h = refl
first_whole (b ∷ d) h =
    by_byte b
    (λ e. false_true (sym h ∙ divided_here b d e))
    (λ n. first_on b d n ∙ ap (λ (l : List ℕ). b ∷ l) (first_whole d (sym (divided_on b d n) ∙ h)))

-- Nothing is after the first part of an undivided list.
pub after_whole : (d : List ℕ) → is_divided d ≡ false → after_part d ≡ []
unfolding after_part
after_whole [] h = refl
after_whole (b ∷ d) h =
    by_byte b
    (λ e. false_true (sym h ∙ divided_here b d e))
    (λ n. after_on b d n ∙ after_whole d (sym (divided_on b d n) ∙ h))

-- the first part is where the content begins, and has no `/`
pub take_first : (c : List ℕ) → take (length (first_part c)) c ≡ first_part c
unfolding first_part
take_first [] = refl
take_first (b ∷ c) =
    by_byte b
    (λ e. rw (first_here b c e))
    (λ n. rw (first_on b c n) (ap (λ (l : List ℕ). b ∷ l) (take_first c)))

-- The first part has no `/`.
pub first_undivided : (c : List ℕ) → is_divided (first_part c) ≡ false
unfolding first_part is_divided
first_undivided [] = refl
first_undivided (b ∷ c) =
    by_byte b
    (λ e. ap is_divided (first_here b c e))
    (λ n. ap is_divided (first_on b c n) ∙ divided_on b (first_part c) n ∙ first_undivided c)

-- The first part is no longer than the list.
pub first_shorter : (c : List ℕ) → length (first_part c) ≤ length c
first_shorter c = omega (arith, ap length (take_first c), length-take (length (first_part c)) c)

-- one byte
undivided_one : (b : ℕ) → (b ≡ 0x2F → ⊥) → is_divided (b ∷ []) ≡ false
unfolding is_divided
undivided_one b n = divided_on b [] n

every_one : (b : ℕ) → every is_lower_hex (b ∷ []) ≡ is_lower_hex b
unfolding every
every_one b = and-true (is_lower_hex b)

-- bytes from 80 (hex) on are no digits
no_hex : (b : ℕ) → 0x80 ≤ b → is_lower_hex b ≡ false
unfolding is_lower_hex between
no_hex b h = rw (le-leb 0x30 b (omega arith), lt-leb b 0x39 (omega arith), le-leb 0x61 b (omega arith), lt-leb b 0x66 (omega arith))

-- the encoding of a character has a `/` only where the character is one
high : (b : ℕ) (s : List ℕ) → 0x80 ≤ b → is_divided s ≡ false → is_divided (b ∷ s) ≡ false
high b s h e = divided_on b s (λ q. omega arith) ∙ e

-- The encoding of a character other than `/` has no `/`.
pub undivided_encode : (c : ℕ) → (c ≡ 0x2F → ⊥) → is_divided (encode c) ≡ false
unfolding encode
undivided_encode c n =
    by_test (ltb c 0x80)
    (λ e. rw (e, encode) (undivided_one c n))
    (λ e. rw (e, encode) (by_test (ltb c 0x800)
    (λ f. rw f (high _ _ (omega arith) last))
    (λ f. rw f (by_test (ltb c 0x10000)
    (λ g. rw g (high _ _ (omega arith) (high _ _ (omega arith) last)))
    (λ g. rw g (high _ _ (omega arith) (high _ _ (omega arith) (high _ _ (omega arith) last))))))))
  where
    last : is_divided ((0x80 + c % 64) ∷ []) ≡ false
    last = undivided_one _ (λ q. omega arith)

-- The encoding of `/` is that one byte.
pub encode_divider : encode 0x2F ≡ 0x2F ∷ []
unfolding encode
encode_divider = refl

-- and it is made of digits only where the character is one
every_high : (c b : ℕ) (s : List ℕ) → 0x80 ≤ c → 0x80 ≤ b → every is_lower_hex (b ∷ s) ≡ is_lower_hex c
unfolding every
every_high c b s h k = rw (no_hex b k, no_hex c h)

-- The encoding of a character is made of lower-case hexadecimal digits exactly if the character is one.
pub hex_encode : (c : ℕ) → every is_lower_hex (encode c) ≡ is_lower_hex c
unfolding encode
hex_encode c =
    by_test (ltb c 0x80)
    (λ e. rw (e, encode) (every_one c))
    (λ e. let h : 0x80 ≤ c = ltb-false c 0x80 e in
    rw (e, encode) (by_test (ltb c 0x800)
    (λ f. rw f (every_high c _ _ h (omega arith)))
    (λ f. rw f (by_test (ltb c 0x10000) (λ g. rw g (every_high c _ _ h (omega arith))) (λ g. rw g (every_high c _ _ h (omega arith)))))))

-- Of the content c the rest r is left: n bytes are read, none of them a `/`, and `hex` says whether all of them are digits.
pub record DigitsCounted (c r : List ℕ) (n : ℕ) (hex : Bool) : Type 0 where
  pub done : List ℕ
  pub content : c ≡ done ++ r
  pub undivided : is_divided done ≡ false
  pub size : n ≡ length done
  pub digits : hex ≡ every is_lower_hex done

-- At the start no byte is read and the whole content is left.
pub start : (c : List ℕ) → DigitsCounted c c 0 true
unfolding is_divided every
start c = record { done = []; content = refl; undivided = refl; size = refl; digits = refl }

module _ (c r : List ℕ) (n : ℕ) (hex : Bool) (p : DigitsCounted c r n hex) where
  -- some bytes more, none of them a `/`
  pub goes_on : (b q : List ℕ) → r ≡ b ++ q → is_divided b ≡ false → (m : ℕ) → m ≡ length b → (t : Bool) → t ≡ every is_lower_hex b
      → DigitsCounted c q (n + m) (hex && t)
  goes_on b q e u m k t h = record {
    done = p.done ++ b;
    content = p.content ∙ ap (λ (l : List ℕ). p.done ++ l) e ∙ sym (append_assoc p.done b q);
    undivided = divided_append p.done b ∙ rw (p.undivided, u);
    size = omega (arith, p.size, length-append p.done b);
    digits = rw (p.digits, h) (sym (every_append is_lower_hex p.done b));
  }

  -- Reading goes on over one byte that is no `/`.
  pub goes_on_byte : (b : ℕ) (q : List ℕ) → r ≡ b ∷ q → (b ≡ 0x2F → ⊥) → (t : Bool) → t ≡ is_lower_hex b → DigitsCounted c q (n + 1) (hex && t)
  goes_on_byte b q e u t h = goes_on (b ∷ []) q e (undivided_one b u) 1 refl t (h ∙ sym (every_one b))

  -- what is read and what is left is the whole
  pub sizes : n + length r ≡ length c
  sizes = omega (arith, p.size, ap length p.content, length-append p.done r)

  -- at a `/` the first part is read
  module _ (b : ℕ) (q : List ℕ) (e : r ≡ b ∷ q) (d : b ≡ 0x2F) where
    whole : c ≡ p.done ++ 0x2F ∷ q
    whole = p.content ∙ ap (λ (l : List ℕ). p.done ++ l) e ∙ ap (λ (x : ℕ). p.done ++ x ∷ q) d

    -- At a `/` what is counted of the bytes read is what is counted of the first part, which is not the last.
    pub counts_divided : (next : ℕ) → Counts c (record { next = next; length = n; hex = hex; last = false })
    counts_divided next =
        let f : first_part c ≡ p.done = ap first_part whole ∙ first_divided p.done q p.undivided in
        record {
          size = p.size ∙ ap length (sym f);
          hex = p.digits ∙ ap (every is_lower_hex) (sym f);
          last = sym (ap not (ap is_divided whole ∙ is_divided_append p.done q));
        }

    -- What follows that `/` is what is after the first part.
    pub rest_divided : q ≡ after_part c
    rest_divided = sym (ap after_part whole ∙ after_divided p.done q p.undivided)

  -- at the end the content has one part
  module _ (e : r ≡ []) where
    all_read : c ≡ p.done
    all_read = p.content ∙ ap (λ (l : List ℕ). p.done ++ l) e ∙ append-nil p.done

    -- At the end what is counted of the bytes read is what is counted of the first part, which is the last.
    pub counts_last : (next : ℕ) → Counts c (record { next = next; length = n; hex = hex; last = true })
    counts_last next =
        let f : first_part c ≡ p.done = ap first_part all_read ∙ first_whole p.done p.undivided in
        record {
          size = p.size ∙ ap length (sym f);
          hex = p.digits ∙ ap (every is_lower_hex) (sym f);
          last = sym (ap not (ap is_divided all_read ∙ p.undivided));
        }

    -- What is left at the end is what is after the first part.
    pub rest_last : r ≡ after_part c
    rest_last = e ∙ sym (ap after_part all_read ∙ after_whole p.done p.undivided)

-- What one step over a string's content takes of it: the character of an escape, or a byte that stands for itself.
module _ (s : List ℕ) (k : ℕ) (p : Inside s k) where
  -- An escape at the position is taken as the character that it stands for, with the bytes of its encoding.
  pub char_escaped : (next scalar n : ℕ) → Escapes s k next scalar → n ≡ length (encode scalar)
      → CharAt s k (record { next = next; scalar = scalar; length = n })
  char_escaped next scalar n e f =
      let g = over_escape s k p next scalar e in
      record {
        bytes = encode scalar;
        begins = g.0;
        inside = g.1;
        size = f;
        few = omega (arith, encode_length scalar);
        later = omega (arith, e.later);
        divides = λ d. ap encode d ∙ encode_divider;
        no_divider = undivided_encode scalar;
        hex = hex_encode scalar;
      }

  -- A byte at the position that is neither a quotation mark nor a backslash is taken as one byte.
  pub char_byte : (get_or s k 0 ≡ 0x22 → ⊥) → (get_or s k 0 ≡ 0x5C → ⊥)
      → CharAt s k (record { next = k + 1; scalar = get_or s k 0; length = 1 })
  char_byte a b =
      let g = over_byte s k p a b in
      record {
        bytes = get_or s k 0 ∷ [];
        begins = g.0;
        inside = g.1;
        size = refl;
        few = omega arith;
        later = omega arith;
        divides = λ d. ap (λ (x : ℕ). x ∷ []) d;
        no_divider = undivided_one (get_or s k 0);
        hex = every_one (get_or s k 0);
      }

-- The part at position i of a string's content is read up to position k.
module _ (s : List ℕ) (i k n : ℕ) (hex : Bool) (p : DigitsCounted (content_from s i) (content_from s k) n hex) where
  -- the content ends there
  pub at_mark : Inside s k → get_or s k 0 ≡ 0x22 → PartAt s i (record { next = k; length = n; hex = hex; last = true })
  at_mark h e =
      let f = ends s k h e in
      record { counts = counts_last _ _ _ _ p f k; inside = h; rest = rest_last _ _ _ _ p f }

  module _ (u : Char) (x : CharAt s k u) where
    -- At a character that is a `/` the part is read, and the next one begins after that character.
    pub at_divider : u.scalar ≡ 0x2F → PartAt s i (record { next = u.next; length = n; hex = hex; last = false })
    at_divider d =
        let f : content_from s k ≡ 0x2F ∷ content_from s u.next = x.begins ∙ ap (λ (l : List ℕ). l ++ content_from s u.next) (x.divides d) in
        record { counts = counts_divided _ _ _ _ p _ _ f refl u.next; inside = x.inside; rest = rest_divided _ _ _ _ p _ _ f refl }

    -- Reading goes on over a character that is no `/`, by the bytes that it has.
    pub over_char : (u.scalar ≡ 0x2F → ⊥) → (t : Bool) → t ≡ is_lower_hex u.scalar
        → DigitsCounted (content_from s i) (content_from s u.next) (n + u.length) (hex && t)
    over_char d t e = goes_on _ _ _ _ p x.bytes _ x.begins (x.no_divider d) u.length x.size t (e ∙ sym x.hex)

    -- the content is shorter than the text
    pub char_fits : Inside s i → n + u.length < length s
    char_fits h =
        omega (arith, sizes _ _ _ _ p, ap length x.begins, length-append x.bytes (content_from s u.next), x.size, not_longer s i h)

-- two lists are the same where they are equal
pub is_same : (xs ys : List ℕ) → xs ≡ ys → true ≡ same xs ys
is_same xs ys e = sym (ap (same xs) (sym e) ∙ same_refl xs)

-- Two lists that are not equal fail the test `same`.
pub not_same : (xs ys : List ℕ) → (xs ≡ ys → ⊥) → false ≡ same xs ys
not_same xs ys n = by_test (same xs ys) (λ e. absurd (n (same_eq xs ys e))) (λ e. sym e)

-- The content c begins with the first k bytes of a name, and r is left of it.
module _ (c r name : List ℕ) (k : ℕ) (e : c ≡ take k name ++ r) where
  -- the whole name is there
  pub begins : length name ≤ k → true ≡ same (take (length name) c) name
  begins h = is_same (take (length name) c) name (ap (take (length name)) (e ∙ ap (λ (l : List ℕ). l ++ r) (take_all k name h)) ∙ take-append_seam name r)

  module _ (h : k < length name) where
    passed : length (take k name) ≡ k
    passed = length-take-le k name (omega arith)

    module _ (b : ℕ) (q : List ℕ) (f : r ≡ b ∷ q) where
      at_byte : c ≡ take k name ++ b ∷ q
      at_byte = e ∙ ap (λ (l : List ℕ). take k name ++ l) f

      -- the next byte is that of the name, or another
      pub next_same : b ≡ get_or name k 0 → c ≡ take (k + 1) name ++ q
      next_same g =
          at_byte ∙ sym (append_snoc (take k name) b q)
          ∙ ap (λ (x : ℕ). (take k name ++ (x ∷ [])) ++ q) g
          ∙ ap (λ (l : List ℕ). l ++ q) (sym (ap (λ (n : ℕ). take n name) (add-one k) ∙ take-suc name k 0 h))

      -- Where the next byte is not that of the name, the content does not begin with the name.
      pub next_differs : (b ≡ get_or name k 0 → ⊥) → false ≡ same (take (length name) c) name
      next_differs n =
          not_same (take (length name) c) name
          (λ g. n (sym (ap (λ (l : List ℕ). get_or l k 0) at_byte ∙ get_or_at (take k name) b q 0 k passed)
          ∙ sym (get_or-take (length name) c k 0 h)
          ∙ ap (λ (l : List ℕ). get_or l k 0) g))

-- the next byte of a list from position i on
pub next_plain : (s : List ℕ) (i k : ℕ) → i + k < length s → drop k (drop i s) ≡ get_or s (i + k) 0 ∷ drop (k + 1) (drop i s)
next_plain s i k h =
    let e : i + k + 1 ≡ i + (k + 1) = omega arith in
    drop-drop k i s ∙ drop_next s (i + k) h ∙ ap (λ (n : ℕ). get_or s (i + k) 0 ∷ drop n s) e
    ∙ ap (λ (l : List ℕ). get_or s (i + k) 0 ∷ l) (sym (drop-drop (k + 1) i s))

-- the first part is a name of its length where the content begins with it
module _ (c name : List ℕ) where
  -- A content begins with a name of its first part's length exactly if that part is the name.
  pub as_begins : length name ≡ length (first_part c) → same (take (length name) c) name ≡ same (first_part c) name
  as_begins e = ap (λ (l : List ℕ). same l name) (ap (λ (n : ℕ). take n c) e ∙ take_first c)

  -- A first part of another length than the name is not the name.
  pub other_length : (length (first_part c) ≡ length name → ⊥) → false ≡ same (first_part c) name
  other_length n = not_same (first_part c) name (λ q. n (ap length q))
