-- Contents of which each number passes a test, and each member another, which sees its key and the members after it.
use Prim.Native.Nat.{ℕ}
use mathlib.Core.List.{List}
use mathlib.Core.Bool.{Bool}
use Rattle.text_content.specs.Value.{Value, Values, Fields, null, boolean, number, string, array, object, no_values, value, no_fields, field}

mutual
  pub data Each (Number : Bool → List ℕ → Type 0) (Key : List ℕ → Fields → Type 0) : Value → Type 0 where
    each_null : Each Number Key null
    each_boolean : {b : Bool} → Each Number Key (boolean b)
    each_number : {n : Bool} {ds : List ℕ} → Number n ds → Each Number Key (number n ds)
    each_string : {s : List ℕ} → Each Number Key (string s)
    each_array : {vs : Values} → EachValue Number Key vs → Each Number Key (array vs)
    each_object : {fs : Fields} → EachField Number Key fs → Each Number Key (object fs)

  pub data EachValue (Number : Bool → List ℕ → Type 0) (Key : List ℕ → Fields → Type 0) : Values → Type 0 where
    each_none : EachValue Number Key no_values
    each_value : {v : Value} {vs : Values} → Each Number Key v → EachValue Number Key vs → EachValue Number Key (value v vs)

  pub data EachField (Number : Bool → List ℕ → Type 0) (Key : List ℕ → Fields → Type 0) : Fields → Type 0 where
    each_empty : EachField Number Key no_fields
    each_field : {k : List ℕ} {v : Value} {fs : Fields} → Key k fs → Each Number Key v → EachField Number Key fs → EachField Number Key (field k v fs)
