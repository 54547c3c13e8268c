-- What is known of a digest in a text, by positions: the content from a position on stands for the part there.
use Rattle.std.specs.Prelude.{ℕ, ◌+◌, ◌≤◌, ◌≡◌, List, ◌∷◌, true, length, drop, get_or}
use Rattle.text_chars.specs.Measure.{every}
use Rattle.text_strings.specs.Cursor.{Left}
use Rattle.text_strings.specs.InString.{Inside, content_from}
use Rattle.text_strings.specs.declared.Cursor.{Cursor}
use Rattle.reference_parts.specs.Hex.{is_lower_hex}
use Rattle.reference_parts.specs.Parts.{first_part}
use Rattle.reference_digests.specs.Digests.{is_digest}
use Rattle.reference_digests.specs.declared.algorithm.Algorithm.{Algorithm}

-- a digest of that algorithm is the part at position i, of a text's string and of plain bytes
pub record DigestAt (s : List ℕ) (i : ℕ) (a : Algorithm) : Type 0 where
  pub inside : Inside s i
  pub digest : is_digest a (first_part (content_from s i)) ≡ true

pub record PlainDigest (s : List ℕ) (i : ℕ) (a : Algorithm) : Type 0 where
  pub within : i ≤ length s
  pub digest : is_digest a (first_part (drop i s)) ≡ true

-- the first part of the content c is the digits of n bytes
pub record Digits (c : List ℕ) (n : ℕ) : Type 0 where
  pub size : length (first_part c) ≡ n + n
  pub digits : every is_lower_hex (first_part c) ≡ true

-- the digits of n bytes are the part before a cursor
pub record DigitsLeft (s : List ℕ) (k : Cursor) (n : ℕ) : Type 0 where
  pub content : List ℕ
  pub left : Left s k content
  pub part : Digits content n

-- the two bytes at position j stand for themselves in a string
pub record PlainPair (s : List ℕ) (j : ℕ) : Type 0 where
  pub begins : content_from s j ≡ get_or s j 0 ∷ get_or s (j + 1) 0 ∷ content_from s (j + 2)
  pub inside : Inside s (j + 2)
