-- The first key of an object that is equal to an earlier one, found by the places of the object's keys. Where it stands is given by
-- how many bytes of the text are left from there on, 0 where there is none.
use Rattle.std.specs.Prelude.{ℕ, ◌+◌, ◌-◌, max, ◌≡◌, List, [], ◌∷◌, Bool, true, false, length, drop}
use Rattle.laws.specs.Order.{same}
use Rattle.text_json.specs.Syntax.{Member}
use Rattle.text_json.specs.Content.{unescape}
use Rattle.text_strings.specs.InString.{content_from}

-- what is left, where a test holds, else 0
unfoldable pub left_if : Bool → ℕ → ℕ
left_if true n = n
left_if false n = 0

-- what is left from position l on, where the key there is equal to the one at k
unfoldable pub same_left : List ℕ → ℕ → ℕ → ℕ
same_left s k l = left_if (same (content_from s (l + 1)) (content_from s (k + 1))) (length s - l)

-- the most that is left from one of these keys that is equal to the one at k
unfoldable pub equal_left : List ℕ → ℕ → List ℕ → ℕ
equal_left s k [] = 0
equal_left s k (l ∷ ls) = max (same_left s k l) (equal_left s k ls)

-- the most that is left from a key that is equal to an earlier one of the list
unfoldable pub repeat_left : List ℕ → List ℕ → ℕ
repeat_left s [] = 0
repeat_left s (k ∷ ks) = max (equal_left s k ks) (repeat_left s ks)

-- the keys of these members of the text s stand at these positions
pub data Places (s : List ℕ) : List Member → List ℕ → Type 0 where
  no_places : Places s [] []
  place_at : {m : Member} {k : ℕ} {ms : List Member} {ks : List ℕ} → m.place ≡ drop k s → unescape m.key ≡ content_from s (k + 1)
      → Places s ms ks → Places s (m ∷ ms) (k ∷ ks)
