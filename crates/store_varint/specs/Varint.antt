-- Numbers in groups of seven bits (document 01, "The room"): the lowest group first, the top bit set on all but the last byte, shortest form
-- only. The field calls this unsigned LEB128, and such a number a varint.
use Rattle.std.specs.Prelude.{ℕ, zero, suc, ◌+◌, ◌-◌, ◌*◌, ◌/◌, ◌%◌, List, [], ◌∷◌, true, false, ltb, eqb}

-- the bytes of n; the first number bounds how many follow the first, and n itself is enough
unfoldable pub groups : ℕ → ℕ → List ℕ
groups zero n = n ∷ []
groups (suc k) n = elim (ltb n 128) [ true ↦ n ∷ [] | false ↦ (128 + n % 128) ∷ groups k (n / 128) ]

unfoldable pub varint : ℕ → List ℕ
varint n = groups n n

-- what some bytes begin with: a number in shortest form, and what follows it; or none
pub data Parsed : Type 0 where
  number : ℕ → List ℕ → Parsed
  no_number : Parsed

-- The byte b has its top bit set, and its lower bits stand before the groups from the next byte on. Were those zero, the form without them would
-- be shorter.
unfoldable pub grouped : ℕ → Parsed → Parsed
grouped b no_number = no_number
grouped b (number n r) = elim (eqb n 0) [ true ↦ no_number | false ↦ number (b - 128 + 128 * n) r ]

-- a whole number of any size, whatever the number of its groups
unfoldable pub read_varint : List ℕ → Parsed
read_varint [] = no_number
read_varint (b ∷ s) = elim (ltb b 128) [ true ↦ number b s | false ↦ grouped b (read_varint s) ]
