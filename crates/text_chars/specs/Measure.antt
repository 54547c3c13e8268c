-- A string read one char at a time: all that is kept of the chars is whether they are refused and how long their canonical form is.
use Rattle.text_json.specs.Bytes.{is_plain}
use Rattle.std.specs.Prelude.{ℕ, suc, ◌+◌, ◌≤◌, ◌<◌, ◌≡◌, List, [], ◌∷◌, Bool, true, false, not, ◌&&◌, ◌||◌, leb, eqb, length, take, drop, Result, Ok, Err}
use Rattle.text_json.specs.Syntax.{Char, byte, unit}
use Rattle.text_json.specs.Read.{Read, found, stuck, prepend, read_chars, char, hex}
use Rattle.text_json.specs.Content.{refused_string, is_pair, is_low}
use Rattle.text_json.specs.Size.{content_size}
use Rattle.text_json.specs.declared.Token.{Token}

-- whether the chars are refused, and the length of their canonical form
pub data Weight : Type 0 where
  weight : Bool → ℕ → Weight

unfoldable pub measure : Read (List Char) → Read Weight
measure (found cs r) = found (weight (refused_string cs) (content_size cs)) r
measure (stuck r) = stuck r

-- what is measured, after chars that f refuses, of length n
unfoldable pub add : Bool → ℕ → Read Weight → Read Weight
add f n (found (weight g m) r) = found (weight (f || g) (n + m)) r
add f n (stuck r) = stuck r

-- the unit u and the char that is read next are one character
unfoldable pub paired : ℕ → Read (List Char) → Bool
paired u (found [] r) = false
paired u (found (byte b ∷ cs) r) = false
paired u (found (unit v ∷ cs) r) = is_pair u v
paired u (stuck r) = false

-- the digits at a position make up a unit, or reading them is stuck
abbrev pub Hexes : List ℕ → ℕ → Result ℕ ℕ → Type 0
Hexes s at (Ok u) =
    (at + 4 ≤ length s) × (u < 0x10000) × (read_chars (hex 3 0) (drop at s) ≡ prepend (unit u) (read_chars char (drop (at + 4) s)))
Hexes s at (Err e) = (at ≤ e) × (e ≤ length s) × (read_chars (hex 3 0) (drop at s) ≡ stuck (drop e s))

-- of x, which is read from the backslash at `at` on, one escape is taken off, no shorter than its canonical form
abbrev pub Escapes : List ℕ → ℕ → Read (List Char) → Result Token ℕ → Type 0
Escapes s at x (Ok t) =
    (at < t.end) × (t.end ≤ length s) × (at + t.size ≤ t.end) × (measure x ≡ add t.refused t.size (measure (read_chars char (drop t.end s))))
Escapes s at x (Err e) = (at ≤ e) × (e ≤ length s) × (x ≡ stuck (drop e s))

-- a low surrogate's escape stands at a position, or nothing that pairs with a unit before it
abbrev pub Lows : List ℕ → ℕ → Bool → Type 0
Lows s at true =
    (at + 6 ≤ length s) × ((v : ℕ) × (is_low v ≡ true) × (read_chars char (drop at s) ≡ prepend (unit v) (read_chars char (drop (at + 6) s))))
Lows s at false = (u : ℕ) → paired u (read_chars char (drop at s)) ≡ false

-- how many such bytes a list begins with
unfoldable pub plain_length : List ℕ → ℕ
plain_length [] = 0
plain_length (b ∷ s) = elim (is_plain b) [ true ↦ suc (plain_length s) | false ↦ 0 ]

-- a test holds of each byte
unfoldable pub every : (ℕ → Bool) → List ℕ → Bool
every p [] = true
every p (b ∷ s) = p b && every p s

-- a byte is not m
unfoldable pub is_not : ℕ → ℕ → Bool
is_not m b = not (eqb b m)

-- a byte is neither a quotation mark nor a backslash
unfoldable pub is_unmarked : ℕ → Bool
is_unmarked b = not (eqb b 0x22) && not (eqb b 0x5C)

-- n bytes are there, and none of them is a quotation mark or a backslash
unfoldable pub unmarked_run : ℕ → List ℕ → Bool
unmarked_run n xs = leb n (length xs) && every is_unmarked (take n xs)
