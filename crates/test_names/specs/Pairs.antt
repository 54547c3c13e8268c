-- What checking a pair of manifests gives.
use Rattle.std.specs.Prelude.{ℕ, ◌≡◌, List, Option, Some, None}
use Rattle.manifest.specs.Number.{manifest_text_number}
use Rattle.manifest.specs.Opened.{Opens}
use Rattle.test_names.specs.declared.Pair.{Pair}

-- both manifests are opened; where there is none, not both get the number 0
abbrev pub OpenPair : List ℕ → List ℕ → Option Pair → Type 0
OpenPair s t (Some r) = Opens s r.first × Opens t r.second
OpenPair s t None = manifest_text_number s ≡ 0 → manifest_text_number t ≡ 0 → ⊥
