-- Who accepts whom, and chains of acceptance (document 01, "The room"), with no algorithm in them.
use Rattle.std.specs.Prelude.{ℕ, zero, suc, ◌≡◌, true}
use mathlib.Core.List.{List, ◌∷◌, Memᴰ as In}
use Rattle.reference.specs.References.{Rule, Id}
use Rattle.reference.specs.Matches.{matches}
use Rattle.manifest.specs.Manifest.{rejects, rules, self_names}
use Rattle.store_record.specs.Image.{Image}

-- image A accepts B if some rule of A matches B, under one of B's IDs
pub data Accepts (a b : Image) : Type 0 where
  by_rule : (r : Rule) (i : Id) → In r (rules a.text) → In i b.ids → matches r i (self_names b.text) ≡ true → Accepts a b

-- a chain is a list of loaded images in which each accepts the next; it leads from its first to its last
pub data Chain (loaded : List Image) : Image → Image → Type 0 where
  alone : (a : Image) → In a loaded → Chain loaded a a
  onward : (a b c : Image) → In a loaded → Accepts a b → Chain loaded b c → Chain loaded a c

-- a guard is an image that rejects whatever it does not accept
abbrev pub Guard : Image → Type 0
Guard a = rejects a.text ≡ true

-- the element at a place of a list, counted from 0
pub data At {A : Type 0} : List A → ℕ → A → Type 0 where
  first : {x : A} {xs : List A} → At (x ∷ xs) zero x
  later : {x y : A} {xs : List A} {k : ℕ} → At xs k y → At (x ∷ xs) (suc k) y
