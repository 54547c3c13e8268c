-- Unicode scalar values, and the bytes that encode one, by RFC 3629, section 3.
-- Assumes nothing.
use Rattle.std.specs.Prelude.{ℕ, ◌+◌, ◌/◌, ◌%◌, ◌≡◌, Bool, true, cond, ◌&&◌, ◌||◌, List, [], ◌∷◌, ◌++◌, ltb, leb}

-- a number up to 10FFFF that is no surrogate (D800 to DFFF)
unfoldable pub is_scalar : ℕ → Bool
is_scalar c = ltb c 0xD800 || (leb 0xE000 c && ltb c 0x110000)

abbrev pub encode1 : ℕ → List ℕ
encode1 c = c ∷ []

abbrev pub encode2 : ℕ → List ℕ
encode2 c = (0xC0 + c / 64) ∷ (0x80 + c % 64) ∷ []

abbrev pub encode3 : ℕ → List ℕ
encode3 c = (0xE0 + c / 4096) ∷ (0x80 + c / 64 % 64) ∷ (0x80 + c % 64) ∷ []

abbrev pub encode4 : ℕ → List ℕ
encode4 c = (0xF0 + c / 262144) ∷ (0x80 + c / 4096 % 64) ∷ (0x80 + c / 64 % 64) ∷ (0x80 + c % 64) ∷ []

-- the bytes of a scalar value: one below 80, two below 800, three below 10000, else four
unfoldable pub encode : ℕ → List ℕ
encode c = cond (ltb c 0x80) (encode1 c) (cond (ltb c 0x800) (encode2 c) (cond (ltb c 0x10000) (encode3 c) (encode4 c)))

unfoldable pub encode_all : List ℕ → List ℕ
encode_all [] = []
encode_all (c ∷ cs) = encode c ++ encode_all cs

-- each number of the list is a scalar value
unfoldable pub AllScalar : List ℕ → Type 0
AllScalar [] = Unit
AllScalar (c ∷ cs) = (is_scalar c ≡ true) × AllScalar cs
