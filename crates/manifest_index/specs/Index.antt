-- The images' own aliases in one byte list, found by name: what a caller above this crate sees of the index (document 01, "References, names and
-- rules": a rule's
-- MANIFEST may be one of an image's `self` aliases).
use Rattle.std.specs.Prelude.{ℕ, ◌-◌, ◌≤◌, ◌≡◌, List, [], ◌∷◌, length, take, drop}
use Rattle.text_strings.specs.InString.{InString}
use Rattle.text_index.specs.Index.{Entry, Index, entry_text, filter}
use Rattle.reference.specs.References.{Rule}
use Rattle.manifest.specs.Asks.{asks_for}
use Rattle.manifest_index.specs.declared.Range.{Range}

-- at the positions ks of the bytes b the names cs begin
pub data NamesIn (b : List ℕ) : List ℕ → List (List ℕ) → Type 0 where
  none_in : NamesIn b [] []
  name_in : {k : ℕ} {ks c : List ℕ} {cs : List (List ℕ)} → InString b k c → NamesIn b ks cs → NamesIn b (k ∷ ks) (c ∷ cs)

-- the name that begins at the position with that number
unfoldable pub name_at : List ℕ → List ℕ → ℕ → List ℕ
name_at b at e = entry_text b at e

-- a name begins at the position with that number
pub record NumberOf (b at : List ℕ) (e : ℕ) : Type 0 where
  pub entry : Entry b at e

-- `order` has the numbers es, sorted by name
pub record NameIndex (b at es order : List ℕ) : Type 0 where
  pub index : Index b at es order

pub record SomeNameIndex (b at order : List ℕ) : Type 0 where
  pub numbers : List ℕ
  pub index : NameIndex b at numbers order

-- a range of the index has exactly the numbers of the names that a rule asks for
pub record Asked (b at order : List ℕ) (y : Rule) (r : Range) : Type 0 where
  pub rising : r.from ≤ r.to
  pub within : r.to ≤ length order
  pub all : take (r.to - r.from) (drop r.from order) ≡ filter (λ (e : ℕ). asks_for y (name_at b at e)) order
