-- What a function that writes leaves in the slice that it is lent.
use Rattle.std.specs.Prelude.{ℕ, ◌≤◌, ◌≡◌, List, ◌++◌, length, drop}

-- `bytes` are written at the start of the slice, and what was there past them stays
pub record Writes (before after bytes : List ℕ) : Type 0 where
  pub fits : length bytes ≤ length before
  pub all : after ≡ bytes ++ drop (length bytes) before
