-- Places of keys in a JSON text: the positions of their opening quotation marks, and whether they are in rising order.
use Rattle.std.specs.Prelude.{ℕ, ◌+◌, List, [], ◌∷◌, Bool, true, ◌&&◌}
use Rattle.text_strings.specs.InString.{Inside, key_le}

-- each position of the list is the place of a key in the text s
pub data KeysAt (s : List ℕ) : List ℕ → Type 0 where
  no_keys : KeysAt s []
  key_at : {k : ℕ} {ks : List ℕ} → Inside s (k + 1) → KeysAt s ks → KeysAt s (k ∷ ks)

-- no key of the list comes after the next one
unfoldable pub rising_keys : List ℕ → List ℕ → Bool
rising_keys s [] = true
rising_keys s (k ∷ []) = true
rising_keys s (k ∷ l ∷ ls) = key_le s k l && rising_keys s (l ∷ ls)
