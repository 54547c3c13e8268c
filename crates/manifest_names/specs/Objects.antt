-- The key of a name in a group, as it was found.
use Rattle.std.specs.Prelude.{ℕ, ◌+◌, ◌≡◌, List, Option, None, Some}
use Rattle.text_content.specs.Value.{Fields}
use Rattle.text_strings.specs.InString.{InString}
use Rattle.manifest_heads.specs.Contents.{named_in, key_of, member_from}
use Rattle.manifest_names.specs.declared.object.Object.{Object}

-- the key of the name c in a group: which member it is of, and the position of its quotation mark
pub record KeyFound (s : List ℕ) (fs : Fields) (c : List ℕ) (i k : ℕ) : Type 0 where
  pub key : List ℕ
  pub is : key_of c (named_in fs) ≡ Some key
  pub here : InString s (k + 1) key
  pub member : member_from 0 c fs ≡ Some i

abbrev pub FindsKey : List ℕ → Fields → List ℕ → Option Object → Type 0
FindsKey s fs c (Some o) = KeyFound s fs c o.index o.key
FindsKey s fs c None = key_of c (named_in fs) ≡ None
