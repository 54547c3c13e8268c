-- The digest algorithms: digest lengths and names from document 01, "References, names and rules", their bytes from "The room".
use Rattle.std.specs.Prelude.{ℕ, ◌*◌, List, [], ◌∷◌, true, false, eqb, Option, Some, None}
use Rattle.laws.specs.Order.{same}
use Rattle.reference_digests.specs.declared.algorithm.Algorithm.{Algorithm}
use Rattle.reference_digests.specs.declared.algorithm.Algorithm.TheVariants.{Sha224, Sha256, Sha384}

abbrev pub digest_bytes : Algorithm → ℕ
digest_bytes Sha224 = 28
digest_bytes Sha256 = 32
digest_bytes Sha384 = 48

-- a byte is two hexadecimal digits
abbrev pub hex_digits : Algorithm → ℕ
hex_digits a = 2 * digest_bytes a

abbrev pub byte_of : Algorithm → ℕ
byte_of Sha224 = 1
byte_of Sha256 = 2
byte_of Sha384 = 3

-- sha224, sha256, sha384
abbrev pub name_of : Algorithm → List ℕ
name_of Sha224 = 0x73 ∷ 0x68 ∷ 0x61 ∷ 0x32 ∷ 0x32 ∷ 0x34 ∷ []  -- sha224
name_of Sha256 = 0x73 ∷ 0x68 ∷ 0x61 ∷ 0x32 ∷ 0x35 ∷ 0x36 ∷ []  -- sha256
name_of Sha384 = 0x73 ∷ 0x68 ∷ 0x61 ∷ 0x33 ∷ 0x38 ∷ 0x34 ∷ []  -- sha384

-- the algorithm with that name
unfoldable pub named : List ℕ → Option Algorithm
named h =
    elim (same h (name_of Sha224)) [
      | true ↦ Some Sha224
      | false ↦ elim (same h (name_of Sha256)) [ true ↦ Some Sha256 | false ↦ elim (same h (name_of Sha384)) [ true ↦ Some Sha384 | false ↦ None ] ]
    ]

-- the algorithm with that byte
unfoldable pub numbered : ℕ → Option Algorithm
numbered b =
    elim (eqb b 1) [ true ↦ Some Sha224 | false ↦ elim (eqb b 2) [ true ↦ Some Sha256 | false ↦ elim (eqb b 3) [ true ↦ Some Sha384 | false ↦ None ] ] ]
