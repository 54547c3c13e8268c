-- The canonical form (document 01, "Text"; document 001, `jq -jcS`): keys in rising order of their bytes at every level, no space or
-- newline outside strings, strings as raw UTF-8 with only the quotation mark and the backslash escaped.
use Rattle.std.specs.Prelude.{ℕ, List, [], ◌∷◌, ◌++◌, Bool, true, false, ◌&&◌}
use Rattle.laws.specs.Order.{leq}
use Rattle.text_json.specs.Content.{quoted, signed}
use Rattle.text_content.specs.Value.{Value, Values, Fields, null, boolean, number, string, array, object, no_values, value, no_fields, field}

-- a member put in its place among members in rising order of their keys; before one with the same key
unfoldable pub insert_field : List ℕ → Value → Fields → Fields
insert_field k v no_fields = field k v no_fields
insert_field k v (field j w fs) = elim (leq k j) [ true ↦ field k v (field j w fs) | false ↦ field j w (insert_field k v fs) ]

-- the same content with the members of every object in rising order of their keys
unfoldable mutual
  pub sorted : Value → Value
  sorted null = null
  sorted (boolean b) = boolean b
  sorted (number n ds) = number n ds
  sorted (string s) = string s
  sorted (array vs) = array (sorted_values vs)
  sorted (object fs) = object (sorted_fields fs)

  pub sorted_values : Values → Values
  sorted_values no_values = no_values
  sorted_values (value v vs) = value (sorted v) (sorted_values vs)

  pub sorted_fields : Fields → Fields
  sorted_fields no_fields = no_fields
  sorted_fields (field k v fs) = insert_field k (sorted v) (sorted_fields fs)

-- a comma before a value or a member that is not the first
unfoldable pub comma : Bool → List ℕ
comma first = elim first [ true ↦ [] | false ↦ 0x2C ∷ [] ]

-- a content written without spaces, members in the order in which it has them
unfoldable mutual
  pub write : Value → List ℕ
  write null = 0x6E ∷ 0x75 ∷ 0x6C ∷ 0x6C ∷ []  -- null
  write (boolean b) = elim b [ true ↦ 0x74 ∷ 0x72 ∷ 0x75 ∷ 0x65 ∷ [] | false ↦ 0x66 ∷ 0x61 ∷ 0x6C ∷ 0x73 ∷ 0x65 ∷ [] ]
  write (number n ds) = signed n ds
  write (string s) = quoted s
  write (array vs) = 0x5B ∷ (write_values true vs ++ (0x5D ∷ []))
  write (object fs) = 0x7B ∷ (write_fields true fs ++ (0x7D ∷ []))

  -- the first argument says whether nothing stands before
  pub write_values : Bool → Values → List ℕ
  write_values first no_values = []
  write_values first (value v vs) = comma first ++ (write v ++ write_values false vs)

  pub write_fields : Bool → Fields → List ℕ
  write_fields first no_fields = []
  write_fields first (field k v fs) = comma first ++ (quoted k ++ (0x3A ∷ (write v ++ write_fields false fs)))

-- the canonical form of a content
unfoldable pub canonical : Value → List ℕ
canonical v = write (sorted v)

-- no key comes after the next one
unfoldable pub keys_ordered : Fields → Bool
keys_ordered no_fields = true
keys_ordered (field k v no_fields) = true
keys_ordered (field k v (field j w fs)) = leq k j && keys_ordered (field j w fs)

-- the keys of every object are in rising order, at every level
unfoldable mutual
  pub ordered : Value → Bool
  ordered null = true
  ordered (boolean b) = true
  ordered (number n ds) = true
  ordered (string s) = true
  ordered (array vs) = ordered_values vs
  ordered (object fs) = keys_ordered fs && ordered_fields fs

  pub ordered_values : Values → Bool
  ordered_values no_values = true
  ordered_values (value v vs) = ordered v && ordered_values vs

  pub ordered_fields : Fields → Bool
  ordered_fields no_fields = true
  ordered_fields (field k v fs) = ordered v && ordered_fields fs
