-- The `self` aliases of all images of a store, by their positions and their numbers: alias k of image i has the number 64 * i + k.
use Rattle.std.specs.Prelude.{ℕ, zero, suc, ◌+◌, ◌*◌, ◌≤◌, ◌<◌, ◌≡◌, List, [], ◌∷◌, length, take, drop, get_or}
use Rattle.manifest_index.specs.Index.{NamesIn, NumberOf, NameIndex}
use Rattle.manifest.specs.Manifest.{self_names}
use Rattle.store_record.specs.Reading.{between, no_record}
use Rattle.store_record.specs.Store.{most_images}
use Rattle.store_record.specs.declared.Survey.{Survey}

-- the most aliases that an image has for itself
abbrev pub most_names : ℕ
most_names = 64

-- so far as image n, `counts` says how many aliases an image has, and `at` has their positions in the bytes b
pub record PlacedUpTo (n : ℕ) (b : List ℕ) (v : Survey) (at counts : List ℕ) : Type 0 where
  pub at_space : length at ≡ most_images * most_names
  pub counts_space : length counts ≡ most_images
  pub few : (k : ℕ) → k < n → get_or counts k 0 ≤ most_names
  pub each :
      (k : ℕ) → k < n
      → NamesIn b (take (get_or counts k 0) (drop (most_names * k) at))
      (self_names (between b (get_or v.records k no_record).text (get_or v.records k no_record).end))

-- so far as image n, a name stands at the position of each alias
pub record Numbered (n : ℕ) (b at counts : List ℕ) : Type 0 where
  pub few : (i : ℕ) → i < n → get_or counts i 0 ≤ most_names
  pub each : (i : ℕ) → i < n → (k : ℕ) → k < get_or counts i 0 → NumberOf b at (most_names * i + k)

-- the numbers of n aliases from the number `first` on, the last of them in front, and then those of es
unfoldable pub with_numbers : ℕ → ℕ → List ℕ → List ℕ
with_numbers first zero es = es
with_numbers first (suc n) es = (first + n) ∷ with_numbers first n es

-- the numbers of the aliases of the first n images
unfoldable pub numbers_of : List ℕ → ℕ → List ℕ
numbers_of counts zero = []
numbers_of counts (suc n) = with_numbers (most_names * n) (get_or counts n 0) (numbers_of counts n)

-- `order` has the numbers of the aliases of all images, sorted by name
pub record Indexed (b : List ℕ) (v : Survey) (at order : List ℕ) : Type 0 where
  pub counts : List ℕ
  pub placed : PlacedUpTo v.count b v at counts
  pub index : NameIndex b at (numbers_of counts v.count) order
