-- The bytes that encode a character: below 80 (hex) the character itself, and from there on bytes that are neither control
-- characters nor escaped.
-- Assumes nothing.
use Prim.Native.Nat.{ℕ, ◌≤◌, ◌<◌}
use mathlib.Core.Path.{◌≡◌, refl}
use mathlib.Core.List.{List, [], ◌∷◌}
use mathlib.Core.Bool.{false, or-false}
use native.Mathlib.Omega.{arith}
use native.Mathlib.Decide.{dec_lt}
use borrow.Author.Tests.{lt-ltb, le-ltb, lt-leb, ne_eqb}
use lib.ListN.{length}
use Rattle.text_utf8.specs.Scalar.{encode, encode1, encode2, encode3, encode4}
use Rattle.text_json.specs.Content.{is_control, any_control, escaped}

-- each byte is 80 (hex) or more
abbrev High : List ℕ → Type 0
High [] = Unit {0}
High (b ∷ s) = (0x80 ≤ b) × High s

high_control : (s : List ℕ) → High s → any_control s ≡ false
unfolding any_control is_control
high_control [] h = refl
high_control (b ∷ s) h = rw (lt-leb b 0x1F (omega arith), ne_eqb b 0x7F (omega arith), high_control s h.1)

high_size : (s : List ℕ) → High s → length (escaped s) ≡ length s
unfolding escaped
high_size [] h = refl
high_size (b ∷ s) h = rw (escaped, ne_eqb b 0x22 (omega arith), ne_eqb b 0x5C (omega arith), high_size s h.1)

module _ (u : ℕ) where
  encode_one : u < 0x80 → encode u ≡ encode1 u
  unfolding encode
  encode_one h = rw (lt-ltb u 0x80 h)

  encode_two : 0x80 ≤ u → u < 0x800 → encode u ≡ encode2 u
  unfolding encode
  encode_two l h = rw (le-ltb u 0x80 l, lt-ltb u 0x800 h)

  encode_three : 0x800 ≤ u → u < 0x10000 → encode u ≡ encode3 u
  unfolding encode
  encode_three l h = rw (le-ltb u 0x80 (omega arith), le-ltb u 0x800 l, lt-ltb u 0x10000 h)

  encode_four : 0x10000 ≤ u → encode u ≡ encode4 u
  unfolding encode
  encode_four l = rw (le-ltb u 0x80 (omega arith), le-ltb u 0x800 (omega arith), le-ltb u 0x10000 l)

  -- The encoding of a number below 80 (hex) is as long in canonical form as the byte of that number.
  pub size_one : u < 0x80 → length (escaped (encode u)) ≡ length (escaped (u ∷ []))
  size_one h = rw (encode_one h)

  -- The encoding of a number from 80 (hex) up and below 800 (hex) has two bytes in canonical form.
  pub size_two : 0x80 ≤ u → u < 0x800 → length (escaped (encode u)) ≡ 2
  size_two l h = rw (encode_two l h, high_size (encode2 u) (omega arith))

  -- The encoding of a number from 800 (hex) up and below 10000 (hex) has three bytes in canonical form.
  pub size_three : 0x800 ≤ u → u < 0x10000 → length (escaped (encode u)) ≡ 3
  size_three l h = rw (encode_three l h, high_size (encode3 u) (omega arith))

  -- The encoding of a number from 10000 (hex) up has four bytes in canonical form.
  pub size_four : 0x10000 ≤ u → length (escaped (encode u)) ≡ 4
  size_four l = rw (encode_four l, high_size (encode4 u) (omega arith))

  -- The encoding of a number below 80 (hex) has a control character exactly where the number is one.
  pub control_one : u < 0x80 → any_control (encode u) ≡ is_control u
  unfolding any_control
  control_one h = rw (encode_one h, or-false)

  -- The encoding of a number from 80 (hex) up has no control character.
  pub control_high : 0x80 ≤ u → any_control (encode u) ≡ false
  control_high l =
      elim (dec_lt u 0x800) [
        | yes h ↦ rw (encode_two l h, high_control (encode2 u) (omega arith))
        | no n ↦ elim (dec_lt u 0x10000) [
          | yes h ↦ rw (encode_three (omega arith) h, high_control (encode3 u) (omega arith))
          | no m ↦ rw (encode_four (omega arith), high_control (encode4 u) (omega arith))
        ]
      ]
