-- A value's kind says which content it has, and a position has one value.
use Prim.Native.Nat.{ℕ}
use mathlib.Core.Path.{◌≡◌, refl, sym, ap, ◌∙◌}
use mathlib.Core.List.{List}
use mathlib.Core.Bool.{Bool, false}
use lib.Dec.{eqb}
use lib.ListN.{drop}
use borrow.Author.Tests.{eq-eqb}
use Rattle.text_json.proofs.Grammar.Bytes.{both_ways}
use Rattle.text_json.proofs.Grammar.Complete.{read_complete}
use Rattle.text_content.specs.Value.{Value, Values, Fields, null, boolean, number, string, array, object, content}
use Rattle.text_view.specs.Place.{ValueAt, kind_of}
use Rattle.text_view.specs.declared.Kind.{Kind}
use Rattle.text_view.specs.declared.Kind.TheVariants.{Null, Boolean, Number, String, Array, Object}

-- two kinds of other numbers are not equal
abbrev code : Kind → ℕ
code Null = 0
code (Boolean b) = 1
code Number = 2
code String = 3
code Array = 4
code Object = 5

apart : {C : Type 0} {k l : Kind} → k ≡ l → eqb (code k) (code l) ≡ false → C
apart {k} {l} e f = both_ways (eq-eqb (code k) (code l) (ap code e)) f

-- A value whose kind is the boolean `b` is that boolean.
pub is_a_boolean : (v : Value) (b : Bool) → kind_of v ≡ Boolean b → v ≡ boolean b
unfolding kind_of
is_a_boolean null b e = apart e refl
is_a_boolean (boolean a) b e = cc
is_a_boolean (number n ds) b e = apart e refl
is_a_boolean (string c) b e = apart e refl
is_a_boolean (array vs) b e = apart e refl
is_a_boolean (object fs) b e = apart e refl

-- A value whose kind is number is a number, with some sign and some digits.
pub is_a_number : (v : Value) → kind_of v ≡ Number → (n : Bool) × (ds : List ℕ) × (v ≡ number n ds)
unfolding kind_of
is_a_number null e = apart e refl
is_a_number (boolean b) e = apart e refl
is_a_number (number n ds) e = (n, ds, refl)
is_a_number (string c) e = apart e refl
is_a_number (array vs) e = apart e refl
is_a_number (object fs) e = apart e refl

-- A value whose kind is string is a string, with some content.
pub is_a_string : (v : Value) → kind_of v ≡ String → (c : List ℕ) × (v ≡ string c)
unfolding kind_of
is_a_string null e = apart e refl
is_a_string (boolean b) e = apart e refl
is_a_string (number n ds) e = apart e refl
is_a_string (string c) e = (c, refl)
is_a_string (array vs) e = apart e refl
is_a_string (object fs) e = apart e refl

-- A value whose kind is array is an array of some values.
pub is_an_array : (v : Value) → kind_of v ≡ Array → (vs : Values) × (v ≡ array vs)
unfolding kind_of
is_an_array null e = apart e refl
is_an_array (boolean b) e = apart e refl
is_an_array (number n ds) e = apart e refl
is_an_array (string c) e = apart e refl
is_an_array (array vs) e = (vs, refl)
is_an_array (object fs) e = apart e refl

-- A value whose kind is object is an object with some members.
pub is_an_object : (v : Value) → kind_of v ≡ Object → (fs : Fields) × (v ≡ object fs)
unfolding kind_of
is_an_object null e = apart e refl
is_an_object (boolean b) e = apart e refl
is_an_object (number n ds) e = apart e refl
is_an_object (string c) e = apart e refl
is_an_object (array vs) e = apart e refl
is_an_object (object fs) e = (fs, refl)

-- Two values that stand at the same position, with the same limit of depth, are equal.
pub one_value : (s : List ℕ) (at d : ℕ) (v w : Value) → ValueAt s at d v → ValueAt s at d w → v ≡ w
one_value s at d v w p q =
    let e = read_complete d (drop at s) p.tree p.rest p.derives p.stops in
    let f = read_complete d (drop at s) q.tree q.rest q.derives q.stops in
    let t : p.tree ≡ q.tree = cc in
    sym p.means ∙ ap content t ∙ q.means
