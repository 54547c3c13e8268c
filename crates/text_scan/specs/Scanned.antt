-- What reading arrays, objects and whole texts in place needs and leaves.
use Rattle.std.specs.Prelude.{ℕ, ◌+◌, ◌*◌, ◌≤◌, ◌≡◌, List, length, take, Result, Ok, Err}
use Rattle.laws.specs.Sort.{sort}
use Rattle.text_json.specs.Syntax.{Syntax, Member, array, object, elements, members}
use Rattle.text_json.specs.Read.{Read, found, and_then, read_listed, read_pair, read}
use Rattle.text_strings.specs.InString.{key_le}
use Rattle.text_keys.specs.Repeats.{Places}
use Rattle.text_tokens.specs.declared.ScannedValue.{ScannedValue}

-- The first n keys are those of an object with the members ms, sorted by their contents: a key is given by its place, and before
-- the sorting they stood in the order of the text.
pub record SortedKeys (s : List ℕ) (ms : List Member) (n : ℕ) (keys : List ℕ) : Type 0 where
  pub places : List ℕ
  pub here : Places s ms places
  pub within : n ≤ length keys
  pub sorted : take n keys ≡ sort (key_le s) places

-- if an object is read, then n keys are left that are its own, sorted
abbrev pub KeysOf : List ℕ → Read Syntax → ℕ → List ℕ → Type 0
KeysOf s x n keys = (ms : List Member) (r : List ℕ) → x ≡ found (object (members ms)) r → SortedKeys s ms n keys

-- the same of an answer, which tells the number of the keys
abbrev pub LeavesKeys : List ℕ → Read Syntax → List ℕ → Result ScannedValue ℕ → Type 0
LeavesKeys s x keys (Ok f) = KeysOf s x f.count keys
LeavesKeys s x keys (Err e) = Unit {0}

-- what follows the opening mark of an array, and of an object
unfoldable pub read_array : ℕ → List ℕ → Read Syntax
read_array depth s = and_then (read_listed (read depth) 0x5D s) (λ ts r. found (array (elements ts)) r)

unfoldable pub read_object : ℕ → List ℕ → Read Syntax
read_object depth s = and_then (read_listed (read_pair (read depth)) 0x7D s) (λ ms r. found (object (members ms)) r)

-- There is space for the keys of every object from `at` on: a member has four bytes at least before its value.
pub record ScanSpace (s : List ℕ) (at : ℕ) (keys spare : List ℕ) : Type 0 where
  pub within : at ≤ length s
  pub short : length s ≤ 16384
  pub enough : length s ≤ at + 4 * length keys
  pub sorting : length keys ≤ length spare
