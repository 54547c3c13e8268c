-- Aliases (document 01, "References, names and rules"): 1 to 255 bytes, no `/`, not `.`, `..` or `*`, and not 56, 64, 96 or 128
-- lower-case hexadecimal digits. A name counts with all its bytes.
use Rattle.std.specs.Prelude.{ℕ, List, [], ◌∷◌, Bool, not, ◌&&◌, ◌||◌, leb, eqb, length}
use Rattle.laws.specs.Order.{same}
use Rattle.text_chars.specs.Measure.{every}
use Rattle.reference_parts.specs.Hex.{is_lower_hex}
use Rattle.reference_parts.specs.Parts.{is_divided}
use Rattle.reference_digests.specs.Algorithms.{hex_digits}
use Rattle.reference_digests.specs.declared.algorithm.Algorithm.TheVariants.{Sha224, Sha256, Sha384}

-- `*`, which stands for any
abbrev pub star : List ℕ
star = 0x2A ∷ []

unfoldable pub is_reserved : List ℕ → Bool
is_reserved c = same c (0x2E ∷ []) || (same c (0x2E ∷ 0x2E ∷ []) || same c star)

-- the number of hexadecimal digits of some digest; 128 are those of sha512, which no reference names
unfoldable pub is_digest_length : ℕ → Bool
is_digest_length n = eqb n (hex_digits Sha224) || (eqb n (hex_digits Sha256) || (eqb n (hex_digits Sha384) || eqb n 128))

-- a name by its length and by whether it is made of hexadecimal digits only
unfoldable pub is_name_length : ℕ → Bool → Bool
is_name_length n hex = (leb 1 n && leb n 255) && not (hex && is_digest_length n)

unfoldable pub is_alias : List ℕ → Bool
is_alias c = is_name_length (length c) (every is_lower_hex c) && (not (is_divided c) && not (is_reserved c))
