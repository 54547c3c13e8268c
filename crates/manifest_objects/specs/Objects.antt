-- References to layers by their positions in a byte list, and the aliases of a manifest with the numbers of their objects, in the text's order (document 01,
-- "References, names and rules": in `contents` the key is the object, and its value the aliases).
use Rattle.std.specs.Prelude.{ℕ, ◌+◌, ◌-◌, ◌≤◌, ◌<◌, ◌≡◌, List, [], ◌∷◌, Bool, false, ◌&&◌, eqb, length, take, drop, get_or}
use Rattle.laws.specs.Order.{same}
use Rattle.reference_digests.specs.Algorithms.{byte_of}
use Rattle.reference_digests.specs.declared.algorithm.Algorithm.{Algorithm}
use Rattle.text_strings.specs.InString.{InString, Inside, content_from}
use Rattle.text_index.specs.Index.{filter}
use Rattle.reference.specs.References.{Layer, layer, layer_digest, layer_alias, no_layer}
use Rattle.manifest_index.specs.Index.{name_at, NumberOf}
use Rattle.manifest.specs.Manifest.{Alias}
use Rattle.manifest.specs.Names.{objects}
use Rattle.manifest_index.specs.declared.Range.{Range}

-- from position k of b on a string goes on that is a reference to the layer l
pub record StandsAt (b : List ℕ) (k : ℕ) (l : Layer) : Type 0 where
  pub inside : Inside b k
  pub is : layer (content_from b k) ≡ l

-- some reference stands there
pub record SomeReference (b : List ℕ) (k : ℕ) : Type 0 where
  pub layer : Layer
  pub stands : StandsAt b k layer

-- the reference is an alias of that algorithm and signer
unfoldable pub is_alias_of : Algorithm → List ℕ → Layer → Bool
is_alias_of a s (layer_alias b t n) = eqb (byte_of a) (byte_of b) && same s t
is_alias_of a s (layer_digest b d) = false
is_alias_of a s no_layer = false

-- at the positions ks stand references to the layers ls
pub data AllStand (b : List ℕ) : List ℕ → List Layer → Type 0 where
  none_stands : AllStand b [] []
  stands_too : {k : ℕ} {ks : List ℕ} {l : Layer} {ls : List Layer} → StandsAt b k l → AllStand b ks ls → AllStand b (k ∷ ks) (l ∷ ls)

-- an alias of the manifest s: its name stands at position k, and its object is the one with number o
pub record AliasAt (s : List ℕ) (k o : ℕ) (x : Alias) : Type 0 where
  pub name : InString s (k + 1) x.name
  pub within : o < length (objects s)
  pub object : get_or (objects s) o no_layer ≡ x.object

-- the aliases xs stand at the positions ks, and their objects have the numbers os
pub data Listed (s : List ℕ) : List ℕ → List ℕ → List Alias → Type 0 where
  none_listed : Listed s [] [] []
  listed_too : {k o : ℕ} {ks os : List ℕ} {x : Alias} {xs : List Alias}
      → AliasAt s k o x → Listed s ks os xs → Listed s (k ∷ ks) (o ∷ os) (x ∷ xs)

-- from position k of b on the name n goes on
pub record NameStands (b : List ℕ) (k : ℕ) (n : List ℕ) : Type 0 where
  pub here : InString b k n

-- some name stands there
pub record SomeName (b : List ℕ) (k : ℕ) : Type 0 where
  pub name : List ℕ
  pub stands : NameStands b k name

-- a range of the index has exactly the numbers of the name n
pub record Named (b at order n : List ℕ) (r : Range) : Type 0 where
  pub rising : r.from ≤ r.to
  pub within : r.to ≤ length order
  pub all : take (r.to - r.from) (drop r.from order) ≡ filter (λ (e : ℕ). same n (name_at b at e)) order

-- the reference l is an alias whose name begins at the position with number e
pub record AliasNamed (b at : List ℕ) (e : ℕ) (l : Layer) : Type 0 where
  pub algorithm : Algorithm
  pub signer : List ℕ
  pub number : NumberOf b at e
  pub is : l ≡ layer_alias algorithm signer (name_at b at e)
