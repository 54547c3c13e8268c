-- Where a value stands in a text, and what its content is.
use Rattle.std.specs.Prelude.{ℕ, ◌<◌, ◌≤◌, ◌^◌, ◌≡◌, List, ◌∷◌, Bool, length, drop, Result, Ok, Err}
use Rattle.text_json.specs.Syntax.{Syntax, Char}
use Rattle.text_json.specs.Grammar.{Chars, Scalar, Value as Derives, Stops}
use Rattle.text_json.specs.Content.{decimal}
use Rattle.text_json.specs.declared.Token.{Token}
use Rattle.text_content.specs.Value.{Value, null, boolean, number, string, array, object, content}
use Rattle.text_view.specs.declared.Kind.{Kind}
use Rattle.text_view.specs.declared.Kind.TheVariants.{Null, Boolean, Number, String, Array, Object}

-- At position `at` of the text s stands a value, with arrays and objects nested at most `depth` deep, and its content is v.
-- What follows the value does not go on as a number does, so there is one such value.
pub record ValueAt (s : List ℕ) (at depth : ℕ) (v : Value) : Type 0 where
  pub tree : Syntax
  pub rest : List ℕ
  pub derives : Derives depth (drop at s) tree rest
  pub stops : Stops rest
  pub means : content tree ≡ v

-- some value of that depth
pub record Readable (s : List ℕ) (at depth : ℕ) : Type 0 where
  pub value : Value
  pub here : ValueAt s at depth value

-- some value of some depth
pub record SomeValue (s : List ℕ) (at : ℕ) : Type 0 where
  pub depth : ℕ
  pub value : Value
  pub here : ValueAt s at depth value

-- a whole number of at most 32 bits
pub record SmallNumber (s : List ℕ) (at : ℕ) : Type 0 where
  pub depth : ℕ
  pub negative : Bool
  pub digits : List ℕ
  pub small : decimal digits < 2 ^ 32
  pub here : ValueAt s at depth (number negative digits)

unfoldable pub kind_of : Value → Kind
kind_of null = Null
kind_of (boolean b) = Boolean b
kind_of (number n ds) = Number
kind_of (string c) = String
kind_of (array vs) = Array
kind_of (object fs) = Object

-- Position e is the one after the value at position `at`.
pub record EndsAt (s : List ℕ) (at depth e : ℕ) : Type 0 where
  pub later : at < e
  pub within : e ≤ length s
  pub rest : (t : Syntax) (r : List ℕ) → Derives depth (drop at s) t r → Stops r → r ≡ drop e s

-- Position e is the one after the closing quotation mark of the string whose chars go on at position `from`.
pub record StringEndsAt (s : List ℕ) (from e : ℕ) : Type 0 where
  pub later : from < e
  pub within : e ≤ length s
  pub rest : (cs : List Char) (r : List ℕ) → Chars (drop from s) cs r → r ≡ drop e s

-- Position e is the one after the char of a string at position i.
pub record CharEndsAt (s : List ℕ) (i e : ℕ) : Type 0 where
  pub later : i < e
  pub within : e ≤ length s
  pub rest : (cs : List Char) (r : List ℕ) → Chars (drop i s) cs r → (c : Char) × (ds : List Char) × (cs ≡ c ∷ ds) × Chars (drop e s) ds r

-- a value that is neither an array nor an object
pub record ScalarAt (s : List ℕ) (at : ℕ) : Type 0 where
  pub tree : Syntax
  pub rest : List ℕ
  pub derives : Scalar (drop at s) tree rest
  pub stops : Stops rest

-- where a token ended, or reading was stuck
abbrev pub end_of : Result Token ℕ → ℕ
end_of (Ok t) = t.end
end_of (Err e) = e
