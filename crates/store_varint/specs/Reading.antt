-- What reading a number at a position answers.
use Rattle.std.specs.Prelude.{ℕ, ◌≤◌, ◌<◌, ◌≡◌, List, Option, Some, None, length, drop}
use Rattle.store_varint.specs.Varint.{read_varint, number}
use Rattle.store_varint.specs.declared.Number.{Number}

-- the number n, which is at most `most`, stands at position i, and position j is the one after it
pub record NumberAt (s : List ℕ) (i most n j : ℕ) : Type 0 where
  pub reads : read_varint (drop i s) ≡ number n (drop j s)
  pub small : n ≤ most
  pub later : i < j
  pub within : j ≤ length s

-- it is missing exactly if no number at most `most` stands there
abbrev pub Reads : List ℕ → ℕ → ℕ → Option Number → Type 0
Reads s i most (Some r) = NumberAt s i most r.value r.next
Reads s i most None = (n : ℕ) (r : List ℕ) → read_varint (drop i s) ≡ number n r → most < n
