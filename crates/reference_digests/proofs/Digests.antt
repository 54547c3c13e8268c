-- The laws of digests and algorithms: the hexadecimal form of a digest is the one form for its bytes, and an algorithm is known by its name
-- and by its byte.
-- Assumes nothing.
use Rattle.std.specs.Prelude.{Some, None}
use Prim.Native.Nat.{ℕ, zero, suc, ◌+◌, ◌-◌, ◌*◌, ◌/◌, ◌%◌, ◌<◌, ◌≤◌}
use mathlib.Core.Path.{◌≡◌, refl, sym, ap, ◌∙◌}
use mathlib.Core.List.{List, [], ◌∷◌}
use mathlib.Core.Bool.{Bool, true, false, ◌||◌, and-eq-true_iff}
use mathlib.Core.Logic.{◌⊎◌, inl, inr, ⊎_elim}
use native.Mathlib.Omega.{arith}
use borrow.Author.Tests.{eqb-true, eq-eqb, le-leb, lt-leb, lt-ltb, le-ltb, ltb-true, ltb-false}
use lib.Dec.{ltb, eqb}
use lib.ListN.{length}
use Rattle.laws.specs.Order.{same}
use Rattle.laws.proofs.Order.{by_test, same_eq}
use Rattle.text_json.specs.Bytes.{between, is_hex, hex_value}
use Rattle.text_chars.specs.Measure.{every}
use Rattle.text_json.proofs.ByteTests.{or_cases, between_true, hex_below}
use Rattle.reference_parts.specs.Hex.{is_lower_hex}
use Rattle.text_json.specs.Bytes.{AllBytes}
use Rattle.reference_digests.specs.Algorithms.{digest_bytes, hex_digits, byte_of, name_of, named, numbered}
use Rattle.reference_digests.specs.Digests.{is_digest, digest_of, hex_digit, hex_of}
use Rattle.reference_digests.specs.declared.algorithm.Algorithm.{Algorithm}
use Rattle.reference_digests.specs.declared.algorithm.Algorithm.TheVariants.{Sha224, Sha256, Sha384}
use Rattle.reference_digests.proofs.Forms.{named_first, named_second, named_third, named_none}

-- a lower-case digit is a hexadecimal digit
or_outer : (x y z : Bool) → x || z ≡ true → x || (y || z) ≡ true
or_outer true y z e = refl
or_outer false true z e = refl
or_outer false false z e = e

-- A lower-case hexadecimal digit is a hexadecimal digit.
pub lower_is_hex : (b : ℕ) → is_lower_hex b ≡ true → is_hex b ≡ true
unfolding is_lower_hex is_hex
lower_is_hex b e = or_outer (between 0x30 0x39 b) (between 0x41 0x46 b) (between 0x61 0x66 b) e

-- two digits stand for a byte
pub small_byte : (x y : ℕ) → is_lower_hex x ≡ true → is_lower_hex y ≡ true → hex_value x * 16 + hex_value y < 256
small_byte x y e f = omega (arith, hex_below x (lower_is_hex x e), hex_below y (lower_is_hex y f))

-- A lower-case hexadecimal digit is one of 0 to 9 or of a to f.
pub lower_cases : (x : ℕ) → is_lower_hex x ≡ true → ((0x30 ≤ x) × (x ≤ 0x39)) ⊎ ((0x61 ≤ x) × (x ≤ 0x66))
unfolding is_lower_hex
lower_cases x e = ⊎_elim (λ h. inl (between_true 0x30 0x39 x h)) (λ h. inr (between_true 0x61 0x66 x h)) (or_cases _ _ e)

value_decimal : (x : ℕ) → x ≤ 0x39 → hex_value x ≡ x - 0x30
unfolding hex_value
value_decimal x h = rw (hex_value, le-leb x 0x39 h)

value_letter : (x : ℕ) → 0x61 ≤ x → hex_value x ≡ x - 0x57
unfolding hex_value
value_letter x h = rw (hex_value, lt-leb x 0x39 (omega arith), lt-leb x 0x46 (omega arith))

digit_decimal : (n : ℕ) → n < 10 → hex_digit n ≡ 0x30 + n
unfolding hex_digit
digit_decimal n h = rw (hex_digit, lt-ltb n 10 h)

digit_letter : (n : ℕ) → 10 ≤ n → hex_digit n ≡ 0x57 + n
unfolding hex_digit
digit_letter n h = rw (hex_digit, le-ltb n 10 h)

-- a digit and the number that it stands for, back and forth
digit_value : (x : ℕ) → is_lower_hex x ≡ true → hex_digit (hex_value x) ≡ x
digit_value x e =
    ⊎_elim
    (λ h. ap hex_digit (value_decimal x h.1) ∙ digit_decimal (x - 0x30) (omega arith) ∙ omega arith)
    (λ h. ap hex_digit (value_letter x h.0) ∙ digit_letter (x - 0x57) (omega arith) ∙ omega arith)
    (lower_cases x e)

value_digit : (n : ℕ) → n < 16 → hex_value (hex_digit n) ≡ n
value_digit n h =
    by_test (ltb n 10)
    (λ e. let d = ltb-true n 10 e in ap hex_value (digit_decimal n d) ∙ value_decimal (0x30 + n) (omega arith) ∙ omega arith)
    (λ e. let d = ltb-false n 10 e in ap hex_value (digit_letter n d) ∙ value_letter (0x57 + n) (omega arith) ∙ omega arith)

lower_digit : (n : ℕ) → n < 16 → is_lower_hex (hex_digit n) ≡ true
unfolding is_lower_hex between
lower_digit n h =
    by_test (ltb n 10)
    (λ e. let d = ltb-true n 10 e in
    ap is_lower_hex (digit_decimal n d) ∙ rw (le-leb 0x30 (0x30 + n) (omega arith), le-leb (0x30 + n) 0x39 (omega arith)))
    (λ e. let d = ltb-false n 10 e in
    ap is_lower_hex (digit_letter n d)
    ∙ rw (le-leb 0x30 (0x57 + n) (omega arith), lt-leb (0x57 + n) 0x39 (omega arith))
    (rw (le-leb 0x61 (0x57 + n) (omega arith), le-leb (0x57 + n) 0x66 (omega arith))))

-- the two digits of a byte
upper_half : (b : ℕ) → b < 256 → b / 16 < 16
upper_half b h = omega arith

lower_half : (b : ℕ) → b % 16 < 16
lower_half b = omega arith

-- Bytes are the digest of their digits.
pub digest_hex : (d : List ℕ) → AllBytes d → digest_of (hex_of d) ≡ d
unfolding digest_of hex_of
digest_hex [] h = refl
digest_hex (b ∷ d) h =
    let u = value_digit (b / 16) (upper_half b (h zero)) in
    let v = value_digit (b % 16) (lower_half b) in
    let e : hex_value (hex_digit (b / 16)) * 16 + hex_value (hex_digit (b % 16)) ≡ b = omega arith in
    rw (e, digest_hex d (λ k. h (suc k)))

hex_length : (d : List ℕ) → length (hex_of d) ≡ length d + length d
unfolding hex_of
hex_length [] = refl
hex_length (b ∷ d) = omega (arith, hex_length d)

-- The digits of bytes are lower-case hexadecimal digits.
pub all_hex_digits : (d : List ℕ) → AllBytes d → every is_lower_hex (hex_of d) ≡ true
unfolding hex_of every
all_hex_digits [] h = refl
all_hex_digits (b ∷ d) h =
    rw (lower_digit (b / 16) (upper_half b (h zero)), lower_digit (b % 16) (lower_half b)) (all_hex_digits d (λ k. h (suc k)))

-- The digits of as many bytes as an algorithm's digests have are a digest of it.
pub hex_is_digest : (a : Algorithm) (d : List ℕ) → length d ≡ digest_bytes a → AllBytes d → is_digest a (hex_of d) ≡ true
unfolding is_digest
hex_is_digest a d e h = rw (eq-eqb (length (hex_of d)) (hex_digits a) (omega (arith, hex_length d)), all_hex_digits d h)

-- a list of twice n digits
two_digits : (x y : ℕ) (c : List ℕ) → every is_lower_hex (x ∷ y ∷ c) ≡ true → (is_lower_hex x ≡ true) × (is_lower_hex y ≡ true) × (every is_lower_hex c ≡ true)
unfolding every
two_digits x y c e =
    let u = (and-eq-true_iff (is_lower_hex x) (every is_lower_hex (y ∷ c))).0 e in
    let v = (and-eq-true_iff (is_lower_hex y) (every is_lower_hex c)).0 u.1 in
    (u.0, v.0, v.1)

pairs_length : (c : List ℕ) (n : ℕ) → length c ≡ n + n → length (digest_of c) ≡ n
unfolding digest_of
pairs_length [] n e = omega arith
pairs_length (x ∷ []) n e = absurd (omega arith)
pairs_length (x ∷ y ∷ c) n e = let i = pairs_length c (n - 1) (omega arith) in omega arith

pairs_hex : (c : List ℕ) (n : ℕ) → length c ≡ n + n → every is_lower_hex c ≡ true → hex_of (digest_of c) ≡ c
unfolding digest_of hex_of
pairs_hex [] n e d = refl
pairs_hex (x ∷ []) n e d = absurd (omega arith)
pairs_hex (x ∷ y ∷ c) n e d =
    let t = two_digits x y c d in
    let u = hex_below x (lower_is_hex x t.0) in
    let v = hex_below y (lower_is_hex y t.1) in
    let p : (hex_value x * 16 + hex_value y) / 16 ≡ hex_value x = omega arith in
    let q : (hex_value x * 16 + hex_value y) % 16 ≡ hex_value y = omega arith in
    rw (p, q, digit_value x t.0, digit_value y t.1, pairs_hex c (n - 1) (omega arith) t.2)

pairs_bytes : (c : List ℕ) → every is_lower_hex c ≡ true → AllBytes (digest_of c)
unfolding digest_of
pairs_bytes [] d k = omega arith
pairs_bytes (x ∷ []) d k = omega arith
pairs_bytes (x ∷ y ∷ c) d zero = let t = two_digits x y c d in small_byte x y t.0 t.1
pairs_bytes (x ∷ y ∷ c) d (suc k) = pairs_bytes c (two_digits x y c d).2 k

module _ (a : Algorithm) (c : List ℕ) (e : is_digest a c ≡ true) where
  -- what a digest is, by its digits
  counted : (length c ≡ digest_bytes a + digest_bytes a) × (every is_lower_hex c ≡ true)
  unfolding is_digest
  counted =
      let p = (and-eq-true_iff (eqb (length c) (hex_digits a)) (every is_lower_hex c)).0 e in
      let l = eqb-true (length c) (hex_digits a) p.0 in
      (omega arith, p.1)

  -- A digest is the hexadecimal form of its bytes.
  pub hex_digest : hex_of (digest_of c) ≡ c
  hex_digest = pairs_hex c (digest_bytes a) counted.0 counted.1

  -- It has as many bytes as its algorithm says.
  pub digest_length : length (digest_of c) ≡ digest_bytes a
  digest_length = pairs_length c (digest_bytes a) counted.0

  -- They are bytes.
  pub digest_all_bytes : AllBytes (digest_of c)
  digest_all_bytes = pairs_bytes c counted.1

-- Two digests of one algorithm with equal bytes are equal.
pub digest_same : (a : Algorithm) (c d : List ℕ) → is_digest a c ≡ true → is_digest a d ≡ true → digest_of c ≡ digest_of d → c ≡ d
digest_same a c d e f g = sym (hex_digest a c e) ∙ ap hex_of g ∙ hex_digest a d f

-- A digest has 28 bytes at least and 48 at most.
pub digest_bounds : (a : Algorithm) → (28 ≤ digest_bytes a) × (digest_bytes a ≤ 48)
digest_bounds Sha224 = (omega arith, omega arith)
digest_bounds Sha256 = (omega arith, omega arith)
digest_bounds Sha384 = (omega arith, omega arith)

-- An algorithm is the one with its name.
pub named_name : (a : Algorithm) → named (name_of a) ≡ Some a
unfolding named same
named_name Sha224 = refl
named_name Sha256 = refl
named_name Sha384 = refl

-- unequal answers
no_algorithm : {C : Type 0} {a : Algorithm} → None ≡ Some a → C
no_algorithm e = let z : ◌≡◌ {A = ℕ} 0 1 = cc in absurd (omega arith)

one_algorithm : {a b : Algorithm} → Some a ≡ Some b → a ≡ b
one_algorithm e = cc

-- A name that an algorithm is known by is its name.
pub name_named : (h : List ℕ) (a : Algorithm) → named h ≡ Some a → h ≡ name_of a
name_named h a e =
    by_test (same h (name_of Sha224))
    (λ t. same_eq h (name_of Sha224) t ∙ ap name_of (one_algorithm (sym (named_first h t) ∙ e)))
    (λ t. by_test (same h (name_of Sha256))
    (λ u. same_eq h (name_of Sha256) u ∙ ap name_of (one_algorithm (sym (named_second h t u) ∙ e)))
    (λ u. by_test (same h (name_of Sha384))
    (λ v. same_eq h (name_of Sha384) v ∙ ap name_of (one_algorithm (sym (named_third h t u v) ∙ e)))
    (λ v. no_algorithm (sym (named_none h t u v) ∙ e))))

-- An algorithm is the one with its byte.
pub numbered_byte : (a : Algorithm) → numbered (byte_of a) ≡ Some a
unfolding numbered
numbered_byte Sha224 = refl
numbered_byte Sha256 = refl
numbered_byte Sha384 = refl

-- A byte that an algorithm is known by is its byte.
pub byte_numbered : (b : ℕ) (a : Algorithm) → numbered b ≡ Some a → b ≡ byte_of a
unfolding numbered
byte_numbered b a e =
    by_test (eqb b 1)
    (λ t. eqb-true b 1 t ∙ ap byte_of (one_algorithm (rw (t, numbered) at e)))
    (λ t. by_test (eqb b 2)
    (λ u. eqb-true b 2 u ∙ ap byte_of (one_algorithm (rw u at (rw (t, numbered) at e))))
    (λ u. by_test (eqb b 3)
    (λ v. eqb-true b 3 v ∙ ap byte_of (one_algorithm (rw v at (rw u at (rw (t, numbered) at e)))))
    (λ v. no_algorithm (rw v at (rw u at (rw (t, numbered) at e))))))

-- Algorithms with one byte are one.
pub byte_same : (a b : Algorithm) → byte_of a ≡ byte_of b → a ≡ b
byte_same a b e = one_algorithm (sym (numbered_byte a) ∙ ap numbered e ∙ numbered_byte b)
