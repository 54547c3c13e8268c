-- What the words of a line say: a number by its decimal digits, and bytes by pairs of hexadecimal digits.
use Rattle.std.specs.Prelude.{ℕ, ◌+◌, ◌-◌, ◌*◌, ◌%◌, List, [], ◌∷◌, Bool, true, false, ◌&&◌, eqb, leb, length, get_or, Option, Some, None}
use Rattle.text_json.specs.Bytes.{between, is_digit}
use Rattle.text_chars.specs.Measure.{every}
use Rattle.reference_parts.specs.Hex.{is_lower_hex}

-- the number that n and the decimal digits after it spell, which is read as long as it cannot leave 64 bits: ten times the number that n is compared
-- with, and a digit, is less than 2 to the power of 64
unfoldable pub number_from : ℕ → List ℕ → Option ℕ
number_from n [] = Some n
number_from n (b ∷ s) = elim (is_digit b && leb n 1844674407370955160) [ true ↦ number_from (n * 10 + (b - 0x30)) s | false ↦ None ]

-- the number that decimal digits spell, one at least
unfoldable pub number_of : List ℕ → Option ℕ
number_of s = elim (eqb (length s) 0) [ true ↦ None | false ↦ number_from 0 s ]

-- all are lower-case hexadecimal digits, and each digit has a second one
unfoldable pub are_pairs : List ℕ → Bool
are_pairs hex = every is_lower_hex hex && eqb (length hex % 2) 0

-- the number that a lower-case hexadecimal digit stands for; 0 for any other byte
unfoldable pub digit_value : ℕ → ℕ
digit_value b = elim (is_digit b) [ true ↦ b - 0x30 | false ↦ elim (between 0x61 0x66 b) [ true ↦ b - 0x57 | false ↦ 0 ] ]

-- the byte by pair k of the digits
unfoldable pub byte_at : List ℕ → ℕ → ℕ
byte_at hex k = digit_value (get_or hex (k * 2) 0) * 16 + digit_value (get_or hex (k * 2 + 1) 0)
