-- The content of a JSON text: strings as the bytes that they stand for, whole numbers as a sign and decimal digits, arrays in
-- their order, and objects with their members as they stand in the text.
use Rattle.std.specs.Prelude.{ℕ, List, Bool}
use Rattle.text_json.specs.Syntax.{Syntax, Elements, Members, no_elements, element, no_members, member}
use Rattle.text_json.specs.Content.{unescape}

mutual
  pub data Value : Type 0 where
    null : Value
    boolean : Bool → Value
    number : Bool → List ℕ → Value
    string : List ℕ → Value
    array : Values → Value
    object : Fields → Value

  pub data Values : Type 0 where
    no_values : Values
    value : Value → Values → Values

  pub data Fields : Type 0 where
    no_fields : Fields
    field : List ℕ → Value → Fields → Fields

-- the content of a syntax tree
unfoldable mutual
  pub content : Syntax → Value
  content Syntax.null = null
  content (Syntax.boolean b) = boolean b
  content (Syntax.number p n) = number n.negative n.digits
  content (Syntax.string p cs) = string (unescape cs)
  content (Syntax.array es) = array (contents es)
  content (Syntax.object ms) = object (fields ms)

  pub contents : Elements → Values
  contents no_elements = no_values
  contents (element t es) = value (content t) (contents es)

  pub fields : Members → Fields
  fields no_members = no_fields
  fields (member p cs t ms) = field (unescape cs) (content t) (fields ms)

-- Two contents are the same: equal but for the order of members, at every level.
mutual
  pub data Same : Value → Value → Type 0 where
    same_null : Same null null
    same_boolean : {b : Bool} → Same (boolean b) (boolean b)
    same_number : {n : Bool} {ds : List ℕ} → Same (number n ds) (number n ds)
    same_string : {s : List ℕ} → Same (string s) (string s)
    same_array : {vs ws : Values} → SameValues vs ws → Same (array vs) (array ws)
    same_object : {fs gs : Fields} → SameFields fs gs → Same (object fs) (object gs)

  pub data SameValues : Values → Values → Type 0 where
    same_none : SameValues no_values no_values
    same_value : {v w : Value} {vs ws : Values} → Same v w → SameValues vs ws → SameValues (value v vs) (value w ws)

  -- the first member of the one stands somewhere in the other, and what is left is the same
  pub data SameFields : Fields → Fields → Type 0 where
    same_empty : SameFields no_fields no_fields
    same_field : {k : List ℕ} {v w : Value} {fs gs hs : Fields} → Same v w → Inserted k w hs gs → SameFields fs hs → SameFields (field k v fs) gs

  -- gs is hs with the member k w inserted somewhere
  pub data Inserted : List ℕ → Value → Fields → Fields → Type 0 where
    here : {k : List ℕ} {v : Value} {fs : Fields} → Inserted k v fs (field k v fs)
    there : {k j : List ℕ} {v w : Value} {fs gs : Fields} → Inserted k v fs gs → Inserted k v (field j w fs) (field j w gs)
