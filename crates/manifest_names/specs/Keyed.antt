-- Aliases that are collected with their keys.
use Rattle.std.specs.Prelude.{ℕ, ◌+◌, ◌≤◌, ◌≡◌, List, ◌++◌, false, length, take, Option}
use Rattle.text_content.specs.Value.{Value, Values}
use Rattle.text_strings.specs.InString.{Inside}
use Rattle.manifest_fields.specs.Accessors.{texts, names_of}
use Rattle.manifest_entries.specs.Entries.{count}
use Rattle.manifest_fields.specs.Members.{Finds}
use Rattle.manifest_fields.specs.FieldTests.{found_members}
use Rattle.manifest_repeat.specs.Names.{Collectable, GroupAt, GroupFound}
use Rattle.manifest_repeat.specs.Repeated.{repeated}
use Rattle.manifest_heads.specs.Contents.{Named, named_under, conflict}
use Rattle.manifest_heads.specs.Placed.{Placed, KeyedAt}

-- an array of strings under the key at position k, and space for the positions of both
pub record Keyable (s : List ℕ) (at depth k : ℕ) (names : List ℕ) (n : ℕ) (keys : List ℕ) : Type 0 where
  pub list : Collectable s at depth names n
  pub key : Inside s (k + 1)
  pub long : length s ≤ length keys

-- The aliases of vs, which stand under the key k, are added behind the first n, unless a name would stand under two keys.
abbrev pub AddsKeyed : List ℕ → List ℕ → Values → List ℕ → ℕ → List ℕ → List ℕ → List ℕ → ℕ → Type 0
AddsKeyed s k vs before n keys₀ after keys r =
    (r ≡ n + count vs)
    × ((xs rest : List Named) → Placed (KeyedAt s keys₀) (take n before) xs
    → conflict (xs ++ (named_under k (texts vs) ++ rest)) (xs ++ (named_under k (texts vs) ++ rest)) ≡ false
    → Placed (KeyedAt s keys) (take r after) (xs ++ named_under k (texts vs)))

-- a group of aliases, and space
pub record KeyableGroup (s : List ℕ) (at depth : ℕ) (names keys : List ℕ) : Type 0 where
  pub group : GroupAt s at depth names
  pub long : length s ≤ length keys

-- a group that was looked for, with no alias twice, and space
pub record KeyableFound (s : List ℕ) (depth : ℕ) (found : Option ℕ) (names spare keys : List ℕ) : Type 0 where
  pub group : GroupFound s depth found names spare
  pub once : (o : Option Value) → Finds s depth o found → repeated (names_of (found_members o)) ≡ false
  pub long : length s ≤ length keys
