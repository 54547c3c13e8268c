-- What a JSON text is made of, as RFC 8259's grammar finds it. A place in the text is given by what stands from there on, the
-- rest of the text: its offset is the text's length less the rest's.
use Rattle.std.specs.Prelude.{ℕ, List, [], ◌∷◌, Bool}

-- One char of a string (section 7): a byte that stands for itself or is written by a two-character escape, by the byte that it
-- stands for; or a \u escape, by its number.
pub data Char : Type 0 where
  byte : ℕ → Char
  unit : ℕ → Char

-- A number (section 6): whether it has a minus sign, the digits of its int, and whether it has neither frac nor exp.
pub record Numeral : Type 0 where
  pub negative : Bool
  pub digits : List ℕ
  pub whole : Bool

-- A value (section 3). A number and a string have the place of their first byte, for a string its quotation mark; so has a key.
mutual
  pub data Syntax : Type 0 where
    null : Syntax
    boolean : Bool → Syntax
    number : List ℕ → Numeral → Syntax
    string : List ℕ → List Char → Syntax
    array : Elements → Syntax
    object : Members → Syntax

  pub data Elements : Type 0 where
    no_elements : Elements
    element : Syntax → Elements → Elements

  pub data Members : Type 0 where
    no_members : Members
    member : List ℕ → List Char → Syntax → Members → Members

-- A member on its own: its key's place, its key and its value.
pub record Member : Type 0 where
  pub place : List ℕ
  pub key : List Char
  pub value : Syntax

unfoldable pub elements : List Syntax → Elements
elements [] = no_elements
elements (t ∷ ts) = element t (elements ts)

unfoldable pub members : List Member → Members
members [] = no_members
members (m ∷ ms) = member m.place m.key m.value (members ms)
