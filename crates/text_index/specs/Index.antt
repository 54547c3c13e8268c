-- An index of the strings of a byte list: the strings have numbers, `at` has the position where the content of each begins, and the index has their numbers
-- in rising order of content.
use Rattle.std.specs.Prelude.{ℕ, ◌+◌, ◌-◌, ◌≤◌, ◌<◌, ◌≡◌, List, [], ◌∷◌, ◌++◌, Bool, true, false, not, length, get_or, take, drop}
use Rattle.laws.specs.Order.{leq, same}
use Rattle.laws.specs.Sort.{sort}
use Rattle.text_strings.specs.InString.{Inside, content_from}
use Rattle.text_index.specs.declared.Range.{Range}

-- the content of string e
unfoldable pub entry_text : List ℕ → List ℕ → ℕ → List ℕ
entry_text b at e = content_from b (get_or at e 0)

-- string e does not come after string f
unfoldable pub entry_le : List ℕ → List ℕ → ℕ → ℕ → Bool
entry_le b at e f = leq (entry_text b at e) (entry_text b at f)

-- string e stands in the byte list
pub record Entry (b at : List ℕ) (e : ℕ) : Type 0 where
  pub within : e < length at
  pub inside : Inside b (get_or at e 0)

-- `order` is the index of the strings es
pub record Index (b at es order : List ℕ) : Type 0 where
  pub sorted : order ≡ sort (entry_le b at) es
  pub entries : (i : ℕ) → i < length order → Entry b at (get_or order i 0)

pub record SomeIndex (b at order : List ℕ) : Type 0 where
  pub strings : List ℕ
  pub index : Index b at strings order

-- the content x comes before c; where equal ones count, also if it is c
unfoldable pub comes_before : Bool → List ℕ → List ℕ → Bool
comes_before true x c = leq x c
comes_before false x c = not (leq c x)

-- the strings before place `low` come before c, and those from place `high` on do not; at either end equal ones count or not
pub record Counted (b at order : List ℕ) (below above : Bool) (c : List ℕ) (low high : ℕ) : Type 0 where
  pub rising : low ≤ high
  pub within : high ≤ length order
  pub before : (i : ℕ) → i < low → comes_before below (entry_text b at (get_or order i 0)) c ≡ true
  pub after : (i : ℕ) → high ≤ i → i < length order → comes_before above (entry_text b at (get_or order i 0)) c ≡ false

-- the first r strings of the index come before c, and no others
pub record Before (b at order : List ℕ) (equal : Bool) (c : List ℕ) (r : ℕ) : Type 0 where
  pub within : r ≤ length order
  pub before : (i : ℕ) → i < r → comes_before equal (entry_text b at (get_or order i 0)) c ≡ true
  pub after : (i : ℕ) → r ≤ i → i < length order → comes_before equal (entry_text b at (get_or order i 0)) c ≡ false

-- the elements that pass a test, in their order
unfoldable pub filter : {A : Type 0} → (A → Bool) → List A → List A
filter p [] = []
filter p (x ∷ xs) = elim (p x) [ true ↦ x ∷ filter p xs | false ↦ filter p xs ]

-- the places of a range of the index are those of the strings with content c
pub record Holds (b at order c : List ℕ) (r : Range) : Type 0 where
  pub rising : r.from ≤ r.to
  pub within : r.to ≤ length order
  pub all : take (r.to - r.from) (drop r.from order) ≡ filter (λ (e : ℕ). same c (entry_text b at e)) order

-- the elements from place k up to place n stand one place later, and all others where they stood; the one at place k stands there still
pub record Moved (before : List ℕ) (k n : ℕ) (after : List ℕ) : Type 0 where
  pub length_kept : length after ≡ length before
  pub first : take (k + 1) after ≡ take (k + 1) before
  pub moved : drop (k + 1) after ≡ take (n - k) (drop k before) ++ drop (n + 1) before
