-- What is found of a name.
use Rattle.std.specs.Prelude.{ℕ, ◌+◌, ◌<◌, ◌≡◌, List, false, length, get_or, Option, Some, None}
use Rattle.text_strings.specs.InString.{InString}
use Rattle.reference.specs.Matches.{is_one_of}

-- position p is one of ks, and the string there has the content c
pub record Stands (s ks c : List ℕ) (p : ℕ) : Type 0 where
  pub index : ℕ
  pub within : index < length ks
  pub is : get_or ks index 0 ≡ p
  pub name : InString s (p + 1) c

-- where the content c stands among the names cs with the positions ks; there is none exactly if it is none of them
abbrev pub Looks : List ℕ → List (List ℕ) → List ℕ → List ℕ → Option ℕ → Type 0
Looks s cs ks c (Some p) = Stands s ks c p
Looks s cs ks c None = is_one_of c cs ≡ false
