-- Reading a string's chars, one byte on from a position of the text.
-- Assumes nothing.
use Prim.Native.Nat.{ℕ, zero, suc, ◌+◌, ◌-◌, ◌*◌, ◌≤◌, ◌<◌}
use mathlib.Core.Path.{◌≡◌, refl, ◌∙◌}
use mathlib.Core.List.{List, []}
use mathlib.Core.Bool.{true, false}
use native.Mathlib.Numerals.{sub-one}
use native.Mathlib.Omega.{arith}
use borrow.Author.Tests.{ne_eqb, le-leb, lt-leb}
use lib.ListN.{length, drop, get_or, drop_of_length-le}
use Rattle.text_json.specs.Bytes.{is_unescaped, is_short, short_value, is_hex, hex_value}
use Rattle.text_json.specs.Syntax.{byte, unit}
use Rattle.text_json.specs.Read.{found, stuck, Pending, char, escape, hex, prepend, read_chars, read_string}
use Rattle.text_json.proofs.Places.{drop_next}

unescaped_true : (b : ℕ) → 0x20 ≤ b → (b ≡ 0x22 → ⊥) → (b ≡ 0x5C → ⊥) → is_unescaped b ≡ true
unfolding is_unescaped
unescaped_true b h q e = rw (le-leb _ _ h, ne_eqb _ _ q, ne_eqb _ _ e)

unescaped_false : (b : ℕ) → b < 0x20 → is_unescaped b ≡ false
unfolding is_unescaped
unescaped_false b h = rw (lt-leb _ _ h)

module _ (s : List ℕ) (i : ℕ) where
  -- Past the last byte of the text, reading the chars of a string is stuck, whatever is pending.
  pub chars_end : (p : Pending) → length s ≤ i → read_chars p (drop i s) ≡ stuck (drop i s)
  unfolding read_chars
  chars_end p h = rw drop_of_length-le

  -- Past the last byte of the text, reading a string is stuck.
  pub string_end : length s ≤ i → read_string (drop i s) ≡ stuck (drop i s)
  unfolding read_string
  string_end h = rw drop_of_length-le

  module _ (h : i < length s) where
    -- At a quotation mark, reading a string goes on with its chars from the next position.
    pub string_start : get_or s i 0 ≡ 0x22 → read_string (drop i s) ≡ read_chars char (drop (i + 1) s)
    unfolding read_string
    string_start e = rw (drop_next s i h, read_string, e)

    -- At any other byte, reading a string is stuck there.
    pub string_stop : (get_or s i 0 ≡ 0x22 → ⊥) → read_string (drop i s) ≡ stuck (drop i s)
    unfolding read_string
    string_stop e = rw (drop_next s i h, read_string, ne_eqb _ _ e)

    -- At a quotation mark the chars end: no more are found, and the rest begins at the next position.
    pub char_close : get_or s i 0 ≡ 0x22 → read_chars char (drop i s) ≡ found [] (drop (i + 1) s)
    unfolding read_chars
    char_close e = rw (drop_next s i h, read_chars, e)

    -- At a backslash, reading chars goes on with an escape from the next position.
    pub char_escape : get_or s i 0 ≡ 0x5C → read_chars char (drop i s) ≡ read_chars escape (drop (i + 1) s)
    unfolding read_chars
    char_escape e = rw (drop_next s i h, read_chars, e, e)

    -- A byte from 20 (hex) up, neither quotation mark nor backslash, is one char before those from the next position.
    pub char_plain : (get_or s i 0 ≡ 0x22 → ⊥) → (get_or s i 0 ≡ 0x5C → ⊥) → 0x20 ≤ get_or s i 0
        → read_chars char (drop i s) ≡ prepend (byte (get_or s i 0)) (read_chars char (drop (i + 1) s))
    unfolding read_chars
    char_plain q e l = rw (drop_next s i h, read_chars, ne_eqb _ _ q, ne_eqb _ _ e, unescaped_true _ l q e)

    -- At a byte below 20 (hex), neither quotation mark nor backslash, reading chars is stuck there.
    pub char_control : (get_or s i 0 ≡ 0x22 → ⊥) → (get_or s i 0 ≡ 0x5C → ⊥) → get_or s i 0 < 0x20
        → read_chars char (drop i s) ≡ stuck (drop i s)
    unfolding read_chars
    char_control q e l = rw (drop_next s i h, read_chars, ne_eqb _ _ q, ne_eqb _ _ e, unescaped_false _ l)

    -- After a backslash, the byte of a short escape is read as the byte it stands for, before the chars from the next position.
    pub escape_short : is_short (get_or s i 0) ≡ true
        → read_chars escape (drop i s) ≡ prepend (byte (short_value (get_or s i 0))) (read_chars char (drop (i + 1) s))
    unfolding read_chars
    escape_short e = rw (drop_next s i h, read_chars, e)

    escape_hex : get_or s i 0 ≡ 0x75 → read_chars escape (drop i s) ≡ read_chars (hex 3 0) (drop (i + 1) s)
    unfolding read_chars is_short
    escape_hex e = rw (drop_next s i h, read_chars, e, e)

    -- After a backslash, reading is stuck at a byte that is neither that of a short escape nor the letter u.
    pub escape_stop : is_short (get_or s i 0) ≡ false → (get_or s i 0 ≡ 0x75 → ⊥) → read_chars escape (drop i s) ≡ stuck (drop i s)
    unfolding read_chars
    escape_stop e u = rw (drop_next s i h, read_chars, e, ne_eqb _ _ u)

    module _ (n : ℕ) where
      -- At a hexadecimal digit of a \u escape that is not the last, the digit is added to the number and the next digit is read.
      pub hex_more : (k : ℕ) → (k ≡ 0 → ⊥) → is_hex (get_or s i 0) ≡ true
          → read_chars (hex k n) (drop i s) ≡ read_chars (hex (k - 1) (n * 16 + hex_value (get_or s i 0))) (drop (i + 1) s)
      unfolding read_chars
      hex_more zero more e = absurd (more refl)
      hex_more (suc k) more e = rw (sub-one (suc k), drop_next s i h, read_chars, e)

      -- At the last hexadecimal digit of a \u escape, the number with this digit is one char before those from the next position.
      pub hex_last : is_hex (get_or s i 0) ≡ true
          → read_chars (hex 0 n) (drop i s) ≡ prepend (unit (n * 16 + hex_value (get_or s i 0))) (read_chars char (drop (i + 1) s))
      unfolding read_chars
      hex_last e = rw (drop_next s i h, read_chars, e)

      -- In a \u escape, reading is stuck at a byte that is no hexadecimal digit.
      pub hex_stop : (k : ℕ) → is_hex (get_or s i 0) ≡ false → read_chars (hex k n) (drop i s) ≡ stuck (drop i s)
      unfolding read_chars
      hex_stop zero e = rw (drop_next s i h, read_chars, e)
      hex_stop (suc k) e = rw (drop_next s i h, read_chars, e)

-- a u after a backslash
pub escape_unit : (s : List ℕ) (i : ℕ) → i + 1 < length s → get_or s (i + 1) 0 ≡ 0x75
    → read_chars escape (drop (i + 1) s) ≡ read_chars (hex 3 0) (drop (i + 2) s)
escape_unit s i h u =
    let next : i + 1 + 1 ≡ i + 2 = omega arith in
    rw (← next) (escape_hex s (i + 1) h u)

-- a backslash and a u
pub unit_start : (s : List ℕ) (i : ℕ) → i + 1 < length s → get_or s i 0 ≡ 0x5C → get_or s (i + 1) 0 ≡ 0x75
    → read_chars char (drop i s) ≡ read_chars (hex 3 0) (drop (i + 2) s)
unit_start s i h e u = char_escape s i (omega arith) e ∙ escape_unit s i h u
