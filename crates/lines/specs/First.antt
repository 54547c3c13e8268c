-- Where the first byte of a kind stands, from a place on.
use Rattle.std.specs.Prelude.{ℕ, ◌≤◌, ◌<◌, ◌≡◌, List, length, get_or}

-- from place `at` on, the first byte of s that is x stands at r; where there is none, r is the length of s
pub record FirstFrom (s : List ℕ) (at x r : ℕ) : Type 0 where
  pub start : at ≤ r
  pub within : r ≤ length s
  pub before : (k : ℕ) → at ≤ k → k < r → get_or s k 0 ≡ x → ⊥
  pub found : r < length s → get_or s r 0 ≡ x
