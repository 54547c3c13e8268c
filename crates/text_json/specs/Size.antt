-- The lengths of canonical forms, and what functions that read in place ensure of positions and lengths.
use Rattle.std.specs.Prelude.{ℕ, ◌+◌, ◌≤◌, ◌<◌, List, length, Result, Ok, Err}
use Rattle.text_json.specs.Syntax.{Char, Numeral}
use Rattle.text_json.specs.Content.{unescape, escaped, quoted, signed}
use Rattle.text_json.specs.declared.Token.{Token}

unfoldable pub numeral_size : Numeral → ℕ
numeral_size n = length (signed n.negative n.digits)

unfoldable pub string_size : List Char → ℕ
string_size cs = length (quoted (unescape cs))

-- a string's canonical form without its quotes
unfoldable pub content_size : List Char → ℕ
content_size cs = length (escaped (unescape cs))

-- where a step ended or is stuck
abbrev pub reached : Result ℕ ℕ → ℕ
reached (Ok e) = e
reached (Err e) = e

-- the token has a byte, and its canonical form is no longer than it is
abbrev pub Within : ℕ → Result Token ℕ → Type 0
Within at (Ok t) = (at < t.end) × (at + t.size ≤ t.end)
Within at (Err e) = at ≤ e

-- a string's content and its closing quotation mark, likewise
abbrev pub Closed : ℕ → Result Token ℕ → Type 0
Closed at (Ok t) = at + t.size < t.end
Closed at (Err e) = at ≤ e
