-- Digests as lower-case hexadecimal digits, and the bytes that they stand for (document 01, "References, names and rules").
use Rattle.std.specs.Prelude.{ℕ, ◌+◌, ◌*◌, ◌/◌, ◌%◌, List, [], ◌∷◌, Bool, true, false, ◌&&◌, ltb, eqb, length}
use Rattle.text_json.specs.Bytes.{hex_value}
use Rattle.text_chars.specs.Measure.{every}
use Rattle.reference_parts.specs.Hex.{is_lower_hex}
use Rattle.reference_digests.specs.Algorithms.{hex_digits}
use Rattle.reference_digests.specs.declared.algorithm.Algorithm.{Algorithm}

unfoldable pub is_digest : Algorithm → List ℕ → Bool
is_digest a d = eqb (length d) (hex_digits a) && every is_lower_hex d

-- two digits to a byte, the first one for its upper half
unfoldable pub digest_of : List ℕ → List ℕ
digest_of [] = []
digest_of (h ∷ []) = []
digest_of (h ∷ l ∷ s) = (hex_value h * 16 + hex_value l) ∷ digest_of s

-- the lower-case digit of a number below 16
unfoldable pub hex_digit : ℕ → ℕ
hex_digit n = elim (ltb n 10) [ true ↦ 0x30 + n | false ↦ 0x57 + n ]

-- the digits of a digest's bytes, two to a byte, the upper half first
unfoldable pub hex_of : List ℕ → List ℕ
hex_of [] = []
hex_of (b ∷ d) = hex_digit (b / 16) ∷ hex_digit (b % 16) ∷ hex_of d
