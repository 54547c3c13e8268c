-- What the reader of a part answers, by positions in the text: the content from a position on stands for the part there.
use Rattle.std.specs.Prelude.{ℕ, ◌+◌, ◌≤◌, ◌<◌, ◌≡◌, List, [], ◌∷◌, ◌++◌, Bool, true, false, not, length, drop}
use Rattle.text_chars.specs.Measure.{every}
use Rattle.text_strings.specs.InString.{Inside, content_from}
use Rattle.reference_parts.specs.Hex.{is_lower_hex}
use Rattle.reference_parts.specs.Parts.{is_divided, first_part, after_part}
use Rattle.reference_parts.specs.declared.part.Part.{Part}
use Rattle.reference_parts.specs.declared.part.Char.{Char}
use Rattle.reference_parts.specs.declared.part.Start.{Start}

-- what is counted of the first part of the content c
pub record Counts (c : List ℕ) (p : Part) : Type 0 where
  pub size : p.length ≡ length (first_part c)
  pub hex : p.hex ≡ every is_lower_hex (first_part c)
  pub last : p.last ≡ not (is_divided c)

-- The content from position k on begins with these bytes: a character, or one byte of it, and it is a `/` exactly if they are one.
pub record CharAt (s : List ℕ) (k : ℕ) (u : Char) : Type 0 where
  pub bytes : List ℕ
  pub begins : content_from s k ≡ bytes ++ content_from s u.next
  pub inside : Inside s u.next
  pub size : u.length ≡ length bytes
  pub few : u.length ≤ 4
  pub later : k < u.next
  pub divides : u.scalar ≡ 0x2F → bytes ≡ 0x2F ∷ []
  pub no_divider : (u.scalar ≡ 0x2F → ⊥) → is_divided bytes ≡ false
  pub hex : every is_lower_hex bytes ≡ is_lower_hex u.scalar

-- some bytes at the start of the part at position i, and the position after them
pub record StartAt (s : List ℕ) (i : ℕ) (p : Start) : Type 0 where
  pub bytes : List ℕ
  pub begins : content_from s i ≡ bytes ++ content_from s p.next
  pub inside : Inside s p.next
  pub size : p.next ≡ i + length bytes
  pub undivided : is_divided bytes ≡ false
  pub hex : p.hex ≡ every is_lower_hex bytes

-- the part at position i of a text's string, and the position after it
pub record PartAt (s : List ℕ) (i : ℕ) (p : Part) : Type 0 where
  pub counts : Counts (content_from s i) p
  pub inside : Inside s p.next
  pub rest : content_from s p.next ≡ after_part (content_from s i)

-- a part that is not the last, and the one after it
pub record Divided (s : List ℕ) (i : ℕ) (p q : Part) : Type 0 where
  pub here : Inside s i
  pub first : PartAt s i p
  pub more : p.last ≡ false
  pub second : PartAt s p.next q

-- the part at position i of a list of bytes, and the position after it
pub record PlainPart (s : List ℕ) (i : ℕ) (p : Part) : Type 0 where
  pub counts : Counts (drop i s) p
  pub rest : drop p.next s ≡ after_part (drop i s)

-- what is divided into parts from position i on: the bytes as they are, or the content of a string of a JSON text
abbrev pub parts_from : (plain : Bool) → List ℕ → ℕ → List ℕ
parts_from true s i = drop i s
parts_from false s i = content_from s i

-- the first of these parts has so many bytes
abbrev pub HasPart : (plain : Bool) → List ℕ → ℕ → ℕ → Type 0
HasPart true s i len = (i ≤ length s) × (len ≡ length (first_part (drop i s)))
HasPart false s i len = Inside s i × (len ≡ length (first_part (content_from s i)))
