-- What loops over the words of a line keep: the answer for the bytes from a position on is the answer for all; and the values of digits.
use Rattle.std.specs.Prelude.{Some, None}
use Prim.Native.Nat.{ℕ, ◌+◌, ◌-◌, ◌*◌, ◌≤◌, ◌<◌}
use mathlib.Core.Path.{◌≡◌, ap, ◌∙◌}
use mathlib.Core.List.{List, ◌∷◌}
use mathlib.Core.Bool.{Bool, true, false, ◌&&◌}
use native.Mathlib.Omega.{arith}
use lib.ListN.{length, drop, get_or, set, drop_of_length-le}
use lib.Seq.{get_or-set_same, get_or-set_other}
use borrow.Author.Count.{below_more}
use borrow.Author.Tests.{eq-eqb, ne_eqb, le-leb, lt-leb}
use Rattle.text_json.specs.Bytes.{between, is_digit}
use Rattle.text_json.proofs.ByteTests.{between_true}
use Rattle.text_json.proofs.Places.{drop_next}
use Rattle.text_chars.specs.Measure.{every}
use Rattle.reference_parts.specs.Hex.{is_lower_hex}
use Rattle.test_lines.specs.Words.{number_from, number_of, digit_value}

module _ (s : List ℕ) where
  -- No bytes spell no number.
  pub no_number : length s ≡ 0 → number_of s ≡ None
  unfolding number_of
  no_number e = rw (eq-eqb (length s) 0 e, number_of)

  -- Bytes spell the number that they spell after 0.
  pub some_number : (length s ≡ 0 → ⊥) → number_of s ≡ number_from 0 s
  unfolding number_of
  some_number n = rw (ne_eqb (length s) 0 n, number_of)

  module _ (n i : ℕ) where
    -- Past the end the number is read.
    pub number_read : length s ≤ i → number_from n (drop i s) ≡ Some n
    unfolding number_from
    number_read h = ap (number_from n) (drop_of_length-le s {i = i} h)

    module _ (h : i < length s) where
      -- the next byte is read
      at_digit : number_from n (drop i s) ≡ number_from n (get_or s i 0 ∷ drop (i + 1) s)
      at_digit = ap (number_from n) (drop_next s i h)

      -- A byte that is no digit spells no number.
      pub no_digit : is_digit (get_or s i 0) ≡ false → number_from n (drop i s) ≡ None
      unfolding number_from
      no_digit e = at_digit ∙ rw (e, number_from)

      module _ (e : is_digit (get_or s i 0) ≡ true) where
        -- A number that another digit could take out of 64 bits is not read.
        pub too_large : 1844674407370955160 < n → number_from n (drop i s) ≡ None
        unfolding number_from
        too_large l = at_digit ∙ rw (e, lt-leb n 1844674407370955160 l, number_from)

        -- One more digit is read.
        pub next_digit : n ≤ 1844674407370955160 → number_from n (drop i s) ≡ number_from (n * 10 + (get_or s i 0 - 0x30)) (drop (i + 1) s)
        unfolding number_from
        next_digit l = at_digit ∙ rw (e, le-leb n 1844674407370955160 l, number_from)

module _ (hex : List ℕ) (i : ℕ) where
  -- Past the end no byte is left to be a digit.
  pub all_digits : length hex ≤ i → every is_lower_hex (drop i hex) ≡ true
  unfolding every
  all_digits h = ap (every is_lower_hex) (drop_of_length-le hex {i = i} h)

  module _ (h : i < length hex) where
    -- the next byte is asked
    at_hex : every is_lower_hex (drop i hex) ≡ (is_lower_hex (get_or hex i 0) && every is_lower_hex (drop (i + 1) hex))
    unfolding every
    at_hex = ap (every is_lower_hex) (drop_next hex i h)

    -- After a digit the answer is that of the rest.
    pub digits_next : is_lower_hex (get_or hex i 0) ≡ true → every is_lower_hex (drop i hex) ≡ every is_lower_hex (drop (i + 1) hex)
    digits_next e = at_hex ∙ ap (λ (t : Bool). t && every is_lower_hex (drop (i + 1) hex)) e

    -- A byte that is no digit decides.
    pub digits_not : is_lower_hex (get_or hex i 0) ≡ false → every is_lower_hex (drop i hex) ≡ false
    digits_not e = at_hex ∙ ap (λ (t : Bool). t && every is_lower_hex (drop (i + 1) hex)) e

-- A decimal digit is one of the bytes 30 to 39 (hex).
pub digit_bounds : (b : ℕ) → is_digit b ≡ true → (0x30 ≤ b) × (b ≤ 0x39)
unfolding is_digit
digit_bounds b e = between_true 0x30 0x39 b e

module _ (b : ℕ) where
  -- A decimal digit stands for its number.
  pub decimal_value : is_digit b ≡ true → digit_value b ≡ b - 0x30
  unfolding digit_value
  decimal_value e = rw (e, digit_value)

  -- A letter from a to f stands for a number from 10 on.
  pub letter_value : is_digit b ≡ false → between 0x61 0x66 b ≡ true → digit_value b ≡ b - 0x57
  unfolding digit_value
  letter_value e f = rw (e, f, digit_value)

  -- Any other byte stands for 0.
  pub no_value : is_digit b ≡ false → between 0x61 0x66 b ≡ false → digit_value b ≡ 0
  unfolding digit_value
  no_value e f = rw (e, f, digit_value)

-- One more byte is written: those before it stay.
pub byte_next : (out : List ℕ) (f : ℕ → ℕ) (i v : ℕ) → i < length out → v ≡ f i → ((k : ℕ) → k < i → get_or out k 0 ≡ f k)
    → (k : ℕ) → k < i + 1 → get_or (set out i v) k 0 ≡ f k
byte_next out f i v h e w =
    below_more (λ (k : ℕ). get_or (set out i v) k 0 ≡ f k) i (λ k l. get_or-set_other out i k v 0 (λ q. omega arith) ∙ w k l) (get_or-set_same out i v 0 h ∙ e)
