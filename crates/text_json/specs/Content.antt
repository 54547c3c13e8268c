-- What strings and numbers stand for, and which of them document 01 refuses (its section "Text").
use Rattle.std.specs.Prelude.{ℕ, ◌+◌, ◌-◌, ◌*◌, List, [], ◌∷◌, ◌++◌, Bool, true, false, not, ◌&&◌, ◌||◌, leb, ltb, eqb}
use Rattle.text_utf8.specs.Scalar.{encode}
use Rattle.text_json.specs.Bytes.{between}
use Rattle.text_json.specs.Syntax.{Char, byte, unit, Numeral}

-- the two halves of a surrogate pair
unfoldable pub is_high : ℕ → Bool
is_high u = between 0xD800 0xDBFF u

unfoldable pub is_low : ℕ → Bool
is_low u = between 0xDC00 0xDFFF u

unfoldable pub is_surrogate : ℕ → Bool
is_surrogate u = between 0xD800 0xDFFF u

unfoldable pub is_pair : ℕ → ℕ → Bool
is_pair u v = is_high u && is_low v

-- the scalar value of a surrogate pair (RFC 8259, section 7)
unfoldable pub pair_value : ℕ → ℕ → ℕ
pair_value u v = 0x10000 + (u - 0xD800) * 0x400 + (v - 0xDC00)

-- The bytes of a string's content: a \u escape is the character that it names, in UTF-8, and a high surrogate's with a low one's
-- directly after it is one character.
unfoldable pub unescape : List Char → List ℕ
unescape [] = []
unescape (byte b ∷ cs) = b ∷ unescape cs
unescape (unit u ∷ []) = encode u
unescape (unit u ∷ byte b ∷ cs) = encode u ++ unescape (byte b ∷ cs)
unescape (unit u ∷ unit v ∷ cs) =
    elim (is_pair u v) [ true ↦ encode (pair_value u v) ++ unescape cs | false ↦ encode u ++ unescape (unit v ∷ cs) ]

-- the string has a surrogate's escape that is no half of a pair, read from the left
unfoldable pub lone : List Char → Bool
lone [] = false
lone (byte b ∷ cs) = lone cs
lone (unit u ∷ []) = is_surrogate u
lone (unit u ∷ byte b ∷ cs) = is_surrogate u || lone (byte b ∷ cs)
lone (unit u ∷ unit v ∷ cs) = elim (is_pair u v) [ true ↦ lone cs | false ↦ is_surrogate u || lone (unit v ∷ cs) ]

-- U+0000 to U+001F and U+007F; in UTF-8 a byte below 80 (hex) is always a character of its own
unfoldable pub is_control : ℕ → Bool
is_control b = leb b 0x1F || eqb b 0x7F

unfoldable pub any_control : List ℕ → Bool
any_control [] = false
any_control (b ∷ s) = is_control b || any_control s

-- number 4: a lone surrogate escape, or a control character after unescaping
unfoldable pub refused_string : List Char → Bool
refused_string cs = lone cs || any_control (unescape cs)

-- a string's content between its quotes in canonical form: only the quotation mark and the backslash are escaped, each by one backslash
unfoldable pub escaped : List ℕ → List ℕ
escaped [] = []
escaped (b ∷ s) = elim (eqb b 0x22 || eqb b 0x5C) [ true ↦ 0x5C ∷ b ∷ escaped s | false ↦ b ∷ escaped s ]

unfoldable pub quoted : List ℕ → List ℕ
quoted s = 0x22 ∷ (escaped s ++ (0x22 ∷ []))

-- the number that decimal digits stand for, after those that make up n
unfoldable pub decimal_from : ℕ → List ℕ → ℕ
decimal_from n [] = n
decimal_from n (d ∷ ds) = decimal_from (n * 10 + (d - 0x30)) ds

unfoldable pub decimal : List ℕ → ℕ
decimal ds = decimal_from 0 ds

-- the largest distance from 0 on that side of it
unfoldable pub limit : Bool → ℕ
limit negative = elim negative [ true ↦ 2147483648 | false ↦ 2147483647 ]

-- number 5: a fraction or an exponent, -0, or a number outside 32 bits with a sign
unfoldable pub refused_number : Numeral → Bool
refused_number n =
    not n.whole || (n.negative && eqb (decimal n.digits) 0 || ltb (limit n.negative) (decimal n.digits))

-- a whole number in canonical form: its sign and its digits
unfoldable pub signed : Bool → List ℕ → List ℕ
signed negative ds = elim negative [ true ↦ 0x2D ∷ ds | false ↦ ds ]
