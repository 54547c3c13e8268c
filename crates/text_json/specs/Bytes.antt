-- The sets of bytes that RFC 8259's grammar names. Bytes from 80 (hex) up are parts of characters from U+0080 up: the text is
-- asked for UTF-8 apart from the grammar, and every character that the grammar names is one byte.
use Rattle.std.specs.Prelude.{ℕ, ◌-◌, ◌<◌, List, Bool, true, false, not, ◌&&◌, ◌||◌, leb, eqb, get_or}

-- a list of bytes; past its end stands 0
abbrev pub AllBytes : List ℕ → Type 0
AllBytes s = (k : ℕ) → get_or s k 0 < 256

-- low to high, both included
unfoldable pub between : ℕ → ℕ → ℕ → Bool
between low high b = leb low b && leb b high

-- ws: space, line feed, carriage return, tab (section 2)
unfoldable pub is_space : ℕ → Bool
is_space b = eqb b 0x20 || (eqb b 0x0A || (eqb b 0x0D || eqb b 0x09))

-- DIGIT (section 6)
unfoldable pub is_digit : ℕ → Bool
is_digit b = between 0x30 0x39 b

-- decimal-point (section 6)
abbrev pub is_point : ℕ → Bool
is_point b = eqb b 0x2E

-- e = %x65 / %x45 (section 6)
unfoldable pub is_exp : ℕ → Bool
is_exp b = eqb b 0x65 || eqb b 0x45

-- minus / plus (section 6)
unfoldable pub is_sign : ℕ → Bool
is_sign b = eqb b 0x2D || eqb b 0x2B

-- HEXDIG, of either case (section 7)
unfoldable pub is_hex : ℕ → Bool
is_hex b = between 0x30 0x39 b || (between 0x41 0x46 b || between 0x61 0x66 b)

-- the number that a hexadecimal digit stands for
unfoldable pub hex_value : ℕ → ℕ
hex_value b = elim (leb b 0x39) [ true ↦ b - 0x30 | false ↦ elim (leb b 0x46) [ true ↦ b - 0x37 | false ↦ b - 0x57 ] ]

-- unescaped = %x20-21 / %x23-5B / %x5D-10FFFF (section 7); 22 and 5C are the quotation mark and the backslash
unfoldable pub is_unescaped : ℕ → Bool
is_unescaped b = leb 0x20 b && (not (eqb b 0x22) && not (eqb b 0x5C))

-- the characters that may follow a backslash on their own: " \ / b f n r t (section 7)
unfoldable pub is_short : ℕ → Bool
is_short b =
    eqb b 0x22 || (eqb b 0x5C || (eqb b 0x2F || (eqb b 0x62 || (eqb b 0x66 || (eqb b 0x6E || (eqb b 0x72 || eqb b 0x74))))))

-- what such an escape stands for: b, f, n, r, t are U+0008, U+000C, U+000A, U+000D, U+0009, the others themselves
unfoldable pub short_value : ℕ → ℕ
short_value b =
    elim (eqb b 0x62) [
      | true ↦ 0x08
      | false ↦
          elim (eqb b 0x66) [
            | true ↦ 0x0C
            | false ↦
                elim (eqb b 0x6E) [
                  | true ↦ 0x0A
                  | false ↦
                      elim (eqb b 0x72) [
                        | true ↦ 0x0D
                        | false ↦
                            elim (eqb b 0x74) [ true ↦ 0x09 | false ↦ b ]
                      ]
                ]
          ]
    ]

-- a byte that stands for itself in a string, and is not refused
unfoldable pub is_plain : ℕ → Bool
is_plain b = ((leb 0x20 b && not (eqb b 0x22)) && not (eqb b 0x5C)) && not (eqb b 0x7F)
