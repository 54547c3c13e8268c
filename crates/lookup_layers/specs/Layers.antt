-- The layer list (document 01, "The room"): a run of entries, each the byte of an algorithm and a digest. Resolve's output has the same form.
use Rattle.std.specs.Prelude.{ℕ, zero, suc, ◌≡◌, List, [], ◌∷◌, ◌++◌, Bool, true, false, ◌&&◌, eqb, leb, length, take, drop, Option, None, Some}
use Rattle.laws.specs.Any.{any_of}
use Rattle.laws.specs.Order.{same}
use Rattle.reference_digests.specs.Algorithms.{digest_bytes, byte_of, numbered}
use Rattle.reference_digests.specs.declared.algorithm.Algorithm.{Algorithm}

-- a layer by its digest
pub record LayerDigest : Type 0 where
  pub algorithm : Algorithm
  pub bytes : List ℕ

-- the bytes of a list of layers
unfoldable pub entry_of : LayerDigest → List ℕ
entry_of d = byte_of d.algorithm ∷ d.bytes

unfoldable pub list_of : List LayerDigest → List ℕ
list_of [] = []
list_of (d ∷ ds) = entry_of d ++ list_of ds

-- every digest has the length of its algorithm
pub data AllSized : List LayerDigest → Type 0 where
  none_sized : AllSized []
  sized : {d : LayerDigest} {ds : List LayerDigest} → length d.bytes ≡ digest_bytes d.algorithm → AllSized ds → AllSized (d ∷ ds)

-- what some bytes begin with: an entry, and what follows it; or none
pub data First : Type 0 where
  entry : LayerDigest → List ℕ → First
  no_entry : First

-- by what follows the algorithm's byte; a digest that is cut is none
unfoldable pub entry_under : Option Algorithm → List ℕ → First
entry_under None s = no_entry
entry_under (Some a) s =
    elim (leb (digest_bytes a) (length s)) [
      | true ↦ entry (record { algorithm = a; bytes = take (digest_bytes a) s }) (drop (digest_bytes a) s)
      | false ↦ no_entry
    ]

unfoldable pub first_of : List ℕ → First
first_of [] = no_entry
first_of (b ∷ s) = entry_under (numbered b) s

unfoldable pub and_then : LayerDigest → Option (List LayerDigest) → Option (List LayerDigest)
and_then d None = None
and_then d (Some ds) = Some (d ∷ ds)

-- the first entry's layer, and then those of the rest
unfoldable pub continued : (List ℕ → Option (List LayerDigest)) → First → Option (List LayerDigest)
continued rest no_entry = None
continued rest (entry d r) = and_then d (rest r)

-- the layers of at most n entries that fill the bytes exactly; none where they do not
unfoldable pub read_list : ℕ → List ℕ → Option (List LayerDigest)
read_list zero [] = Some []
read_list zero (b ∷ s) = None
read_list (suc n) [] = Some []
read_list (suc n) (b ∷ s) = continued (λ r. read_list n r) (first_of (b ∷ s))

-- the layers of a layer list: every entry has a byte at least
unfoldable pub layers_in : List ℕ → Option (List LayerDigest)
layers_in s = read_list (length s) s

unfoldable pub is_given : Option (List LayerDigest) → Bool
is_given None = false
is_given (Some ds) = true

-- the bytes are a layer list
unfoldable pub is_list : List ℕ → Bool
is_list s = is_given (layers_in s)

-- one layer: the same digest by the same algorithm
unfoldable pub same_layer : LayerDigest → LayerDigest → Bool
same_layer d e = eqb (byte_of d.algorithm) (byte_of e.algorithm) && same d.bytes e.bytes

-- the layer is in the list
unfoldable pub is_listed : LayerDigest → List LayerDigest → Bool
is_listed d ds = any_of (same_layer d) ds
