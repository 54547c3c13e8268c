-- What reading an entry at a position answers.
use Rattle.std.specs.Prelude.{ℕ, ◌+◌, ◌≤◌, ◌≡◌, List, length, take, drop, Option, Some, None}
use Rattle.reference_digests.specs.Algorithms.{digest_bytes}
use Rattle.reference_digests.specs.declared.algorithm.Algorithm.{Algorithm}
use Rattle.lookup_layers.specs.Layers.{LayerDigest, first_of, entry, no_entry, layers_in}
use Rattle.lookup_layers.specs.declared.Entry.{Entry}

-- an entry stands at position i: its digest from position d up to position e
pub record EntryAt (s : List ℕ) (i : ℕ) (a : Algorithm) (d e : ℕ) : Type 0 where
  pub digest : d ≡ i + 1
  pub end : e ≡ d + digest_bytes a
  pub within : e ≤ length s
  pub reads : first_of (drop i s) ≡ entry (record { algorithm = a; bytes = take (digest_bytes a) (drop d s) }) (drop e s)

abbrev pub Reads : List ℕ → ℕ → Option Entry → Type 0
Reads s i (Some e) = EntryAt s i e.algorithm e.digest e.next
Reads s i None = first_of (drop i s) ≡ no_entry

-- the bytes are a layer list
pub record SomeList (s : List ℕ) : Type 0 where
  pub layers : List LayerDigest
  pub is : layers_in s ≡ Some layers
