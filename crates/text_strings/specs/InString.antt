-- Where a position stands in a string of a JSON text, and what is left of the string's content there.
use Rattle.std.specs.Prelude.{ℕ, ◌+◌, ◌<◌, ◌≤◌, ◌≡◌, List, [], ◌++◌, Bool, true, length, drop, get_or}
use Rattle.text_json.specs.Bytes.{is_hex}
use Rattle.text_utf8.specs.Scalar.{encode}
use Rattle.text_json.specs.Syntax.{Char}
use Rattle.text_json.specs.Grammar.{Chars, hex_number}
use Rattle.laws.specs.Order.{leq}
use Rattle.text_json.specs.Read.{Read, found, stuck, char, read_chars}
use Rattle.text_json.specs.Content.{unescape}

-- Position i of the text s stands between two chars of a string, or before its closing quotation mark, and from there on the
-- string's content is c.
pub record InString (s : List ℕ) (i : ℕ) (c : List ℕ) : Type 0 where
  pub chars : List Char
  pub rest : List ℕ
  pub reads : Chars (drop i s) chars rest
  pub content : unescape chars ≡ c

-- position i stands in a string
pub record Inside (s : List ℕ) (i : ℕ) : Type 0 where
  pub bytes : List ℕ
  pub here : InString s i bytes

-- The escape at position i stands for the character `scalar`, and the string goes on at `next`.
pub record Escapes (s : List ℕ) (i next scalar : ℕ) : Type 0 where
  pub later : i + 2 ≤ next
  pub within : next ≤ length s
  pub small : scalar < 0x110000
  pub stands : (c : List ℕ) → InString s i c → (d : List ℕ) × (c ≡ encode scalar ++ d) × InString s next d

-- four hexadecimal digits stand at position i
pub record HexAt (s : List ℕ) (i : ℕ) : Type 0 where
  pub within : i + 3 < length s
  pub first : is_hex (get_or s i 0) ≡ true
  pub second : is_hex (get_or s (i + 1) 0) ≡ true
  pub third : is_hex (get_or s (i + 2) 0) ≡ true
  pub fourth : is_hex (get_or s (i + 3) 0) ≡ true

-- an escape of a string stands at position i
pub record EscapeAt (s : List ℕ) (i : ℕ) : Type 0 where
  pub left : List ℕ
  pub inside : InString s i left
  pub backslash : get_or s i 0 ≡ 0x5C

-- the escape at position i is that of the high surrogate u
pub record HighAt (s : List ℕ) (i u : ℕ) : Type 0 where
  pub escape : EscapeAt s i
  pub letter : get_or s (i + 1) 0 ≡ 0x75
  pub number : u ≡ hex_number (get_or s (i + 2) 0) (get_or s (i + 3) 0) (get_or s (i + 4) 0) (get_or s (i + 5) 0)
  pub low : 0xD800 ≤ u
  pub high : u < 0xDC00

-- the content of the chars that reading finds
unfoldable pub content_of : Read (List Char) → List ℕ
content_of (found cs r) = unescape cs
content_of (stuck r) = []

-- the content that a string has from position i on
unfoldable pub content_from : List ℕ → ℕ → List ℕ
content_from s i = content_of (read_chars char (drop i s))

-- The string whose quotation mark stands at position k does not come after the one at position l.
unfoldable pub key_le : List ℕ → ℕ → ℕ → Bool
key_le s k l = leq (content_from s (k + 1)) (content_from s (l + 1))
