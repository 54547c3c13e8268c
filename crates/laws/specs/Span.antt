-- A part of a list, by positions, of which each element has a property.
use Rattle.std.specs.Prelude.{ℕ, ◌≤◌, ◌<◌, List, length, get_or}

-- each element of s from position i up to j has the property P
pub record Span (P : ℕ → Type 0) (s : List ℕ) (i j : ℕ) : Type 0 where
  pub up : i ≤ j
  pub fits : j ≤ length s
  pub all : (k : ℕ) → i ≤ k → k < j → P (get_or s k 0)
