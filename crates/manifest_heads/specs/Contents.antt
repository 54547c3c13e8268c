-- Names of two manifests compared (document 01, "References, names and rules"): what two groups of aliases share, and under which key a name stands.
-- Names are compared with all their bytes.
use Rattle.std.specs.Prelude.{ℕ, ◌+◌, List, [], ◌∷◌, ◌++◌, Bool, true, false, not, ◌&&◌, Option, None, Some}
use Rattle.laws.specs.Any.{any_of}
use Rattle.laws.specs.Order.{same}
use Rattle.text_content.specs.Value.{Fields, no_fields, field}
use Rattle.reference.specs.Matches.{is_one_of}
use Rattle.manifest_fields.specs.Accessors.{texts}
use Rattle.manifest_values.specs.Values.{entries}

-- an alias of a group and the key under which it stands, as bytes
pub record Named : Type 0 where
  pub name : List ℕ
  pub key : List ℕ

-- the aliases of one key
unfoldable pub named_under : List ℕ → List (List ℕ) → List Named
named_under k [] = []
named_under k (n ∷ ns) = record { name = n; key = k } ∷ named_under k ns

-- the aliases of a group, in the text's order
unfoldable pub named_in : Fields → List Named
named_in no_fields = []
named_in (field k v fs) = named_under k (texts (entries v)) ++ named_in fs

-- a name stands in both lists
unfoldable pub share_name : List (List ℕ) → List (List ℕ) → Bool
share_name xs ys = any_of (λ x. is_one_of x ys) xs

-- the name n stands in the list under another key than k
unfoldable pub is_elsewhere : List ℕ → List ℕ → Named → Bool
is_elsewhere n k a = same n a.name && not (same k a.key)

unfoldable pub stands_elsewhere : List ℕ → List ℕ → List Named → Bool
stands_elsewhere n k xs = any_of (is_elsewhere n k) xs

-- some name stands in both, under different keys
unfoldable pub conflict : List Named → List Named → Bool
conflict xs ys = any_of (λ x. stands_elsewhere x.name x.key ys) xs

-- the key of a name, the first where it stood twice
unfoldable pub key_of : List ℕ → List Named → Option (List ℕ)
key_of n [] = None
key_of n (a ∷ rest) = elim (same n a.name) [ true ↦ Some a.key | false ↦ key_of n rest ]

-- which member of a group has the name, counted from i on; the first where it stood twice
unfoldable pub member_from : ℕ → List ℕ → Fields → Option ℕ
member_from i n no_fields = None
member_from i n (field k v fs) = elim (is_one_of n (texts (entries v))) [ true ↦ Some i | false ↦ member_from (i + 1) n fs ]
