-- What `roomreport` prints (document 01, "On the bench"): "`load`, the line's index from 0 and its number for each line, then the pairs."
use Rattle.std.specs.Prelude.{ℕ, zero, suc, ◌+◌, ◌/◌, ◌%◌, ◌≡◌, true, false, List, [], ◌∷◌, ◌++◌, ltb, length, take, drop}

-- bytes are put at a place of a buffer, those after them stay, and r is the place after them
pub record Puts (out : List ℕ) (at : ℕ) (bytes : List ℕ) (out' : List ℕ) (r : ℕ) : Type 0 where
  pub place : r ≡ at + length bytes
  pub all : out' ≡ take at out ++ (bytes ++ drop (at + length bytes) out)

-- the decimal digits of n, the highest first, where n has at most that many
unfoldable pub digits_of : ℕ → ℕ → List ℕ
digits_of zero n = []
digits_of (suc k) n = elim (ltb n 10) [ true ↦ (0x30 + n) ∷ [] | false ↦ digits_of k (n / 10) ++ (0x30 + n % 10) ∷ [] ]

unfoldable pub decimal : ℕ → List ℕ
decimal n = digits_of (n + 1) n

-- `load I N`, and the line's end
unfoldable pub load_line : ℕ → ℕ → List ℕ
load_line i n = (0x6C ∷ 0x6F ∷ 0x61 ∷ 0x64 ∷ 0x20 ∷ []) ++ (decimal i ++ (0x20 ∷ decimal n ++ (0x0A ∷ [])))

-- `pairs K`
unfoldable pub pairs_line : ℕ → List ℕ
pairs_line k = (0x70 ∷ 0x61 ∷ 0x69 ∷ 0x72 ∷ 0x73 ∷ 0x20 ∷ []) ++ (decimal k ++ (0x0A ∷ []))

-- `G O`, a guard's place and the other's
unfoldable pub pair_line : ℕ → ℕ → List ℕ
pair_line g o = decimal g ++ (0x20 ∷ decimal o ++ (0x0A ∷ []))
