-- The arrays that a caller lends.
use Rattle.std.specs.Prelude.{ℕ, ◌≤◌, List, length}
use Rattle.manifest.specs.Names.{NameSpace}

-- for the sorted names of one manifest of at most `size` bytes, their heads, and for each position of a name that of its key
pub record ClashSpace (size : ℕ) (sorted spare heads keys : List ℕ) : Type 0 where
  pub names : NameSpace sorted spare
  pub heads_space : length sorted ≤ length heads
  pub keys_space : size ≤ length keys
