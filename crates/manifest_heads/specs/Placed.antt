-- Names by the positions of their quotation marks, sorted by content.
use Rattle.std.specs.Prelude.{ℕ, ◌+◌, ◌≤◌, ◌≡◌, List, [], ◌∷◌, false, length, get_or}
use Rattle.laws.specs.Sort.{sort}
use Rattle.text_strings.specs.InString.{InString, key_le}
use Rattle.manifest_repeat.specs.Names.{SortedNames}
use Rattle.manifest_heads.specs.Contents.{Named, conflict}

-- at each position stands what the other list says
pub data Placed {A : Type 0} (Here : ℕ → A → Type 0) : List ℕ → List A → Type 0 where
  no_place : Placed Here [] []
  placed : {k : ℕ} {ks : List ℕ} {x : A} {xs : List A} → Here k x → Placed Here ks xs → Placed Here (k ∷ ks) (x ∷ xs)

pub record SomeNames (s ks : List ℕ) : Type 0 where
  pub names : List (List ℕ)
  pub sorted : SortedNames s names ks

-- the alias a stands at position k, and its key at the position that `keys` has there
pub record KeyedAt (s keys : List ℕ) (k : ℕ) (a : Named) : Type 0 where
  pub name : InString s (k + 1) a.name
  pub key : InString s (get_or keys k 0 + 1) a.key

-- the positions ks are those of the aliases xs, sorted by name; no name stands under two keys
pub record SortedContents (s : List ℕ) (xs : List Named) (keys ks : List ℕ) : Type 0 where
  pub places : List ℕ
  pub here : Placed (KeyedAt s keys) places xs
  pub sorted : ks ≡ sort (key_le s) places
  pub settled : conflict xs xs ≡ false
  pub long : length s ≤ length keys

pub record SomeContents (s keys ks : List ℕ) : Type 0 where
  pub aliases : List Named
  pub sorted : SortedContents s aliases keys ks
