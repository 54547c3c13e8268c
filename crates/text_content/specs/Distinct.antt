-- Contents in which no object has a key twice (document 01, "Text": an object with two equal keys is refused).
use Rattle.std.specs.Prelude.{ℕ, ◌≡◌, List, Bool}
use Rattle.text_content.specs.Value.{Value, Values, Fields, null, boolean, number, string, array, object, no_values, value, no_fields, field}

-- no member has the key k
pub data Fresh (k : List ℕ) : Fields → Type 0 where
  fresh_none : Fresh k no_fields
  fresh_field : {j : List ℕ} {v : Value} {fs : Fields} → (k ≡ j → ⊥) → Fresh k fs → Fresh k (field j v fs)

-- no object has a key twice
mutual
  pub data Distinct : Value → Type 0 where
    distinct_null : Distinct null
    distinct_boolean : {b : Bool} → Distinct (boolean b)
    distinct_number : {n : Bool} {ds : List ℕ} → Distinct (number n ds)
    distinct_string : {s : List ℕ} → Distinct (string s)
    distinct_array : {vs : Values} → DistinctValues vs → Distinct (array vs)
    distinct_object : {fs : Fields} → DistinctFields fs → Distinct (object fs)

  pub data DistinctValues : Values → Type 0 where
    distinct_none : DistinctValues no_values
    distinct_value : {v : Value} {vs : Values} → Distinct v → DistinctValues vs → DistinctValues (value v vs)

  pub data DistinctFields : Fields → Type 0 where
    distinct_empty : DistinctFields no_fields
    distinct_field : {k : List ℕ} {v : Value} {fs : Fields} → Fresh k fs → Distinct v → DistinctFields fs → DistinctFields (field k v fs)
