-- The kind of a value tells its form.
use Prim.Native.Nat.{ℕ, ◌<◌}
use mathlib.Core.Path.{◌≡◌, refl, sym, ap, subst}
use mathlib.Core.List.{List}
use mathlib.Core.Bool.{Bool}
use mathlib.Core.Logic.{◌⊎◌, ⊎_elim}
use native.Mathlib.Omega.{arith}
use denote.Enum.Declared.{tag_of}
use Rattle.text_content.specs.Value.{Value, Values, Fields, null, boolean, number, string, array, object}
use Rattle.text_view.specs.Place.{kind_of}
use Rattle.text_view.specs.declared.Kind.{Kind}
use Rattle.text_view.specs.contracts.Kind
use Rattle.text_view.specs.declared.Kind.TheVariants.{Null, Boolean, Number, String, Array, Object}
use Rattle.text_canonical.specs.Space.{Writable, WritableArray, WritableObject}
use Rattle.text_canonical.proofs.Marks.{space_of}

data IsKind : Kind → Value → Type 0 where
  is_null : IsKind Null null
  is_a_boolean : (b : Bool) → IsKind (Boolean b) (boolean b)
  is_a_number : (n : Bool) (ds : List ℕ) → IsKind Number (number n ds)
  is_a_string : (c : List ℕ) → IsKind String (string c)
  is_an_array : (vs : Values) → IsKind Array (array vs)
  is_an_object : (fs : Fields) → IsKind Object (object fs)

is_kind : (v : Value) → IsKind (kind_of v) v
unfolding kind_of
is_kind null = is_null
is_kind (boolean b) = is_a_boolean b
is_kind (number n ds) = is_a_number n ds
is_kind (string c) = is_a_string c
is_kind (array vs) = is_an_array vs
is_kind (object fs) = is_an_object fs

told : (k : Kind) (v : Value) → k ≡ kind_of v → IsKind k v
told k v e = subst (λ (j : Kind). IsKind j v) (sym e) (is_kind v)

-- the number by which a match tells the kinds apart
abbrev pub tag : Kind → ℕ
tag k = tag_of Kind.the_type k

-- A kind with one of the last three numbers that is neither that of an array nor of an object is that of a string.
pub left_string : (k : Kind) → (tag k ≡ 3) ⊎ ((tag k ≡ 4) ⊎ (tag k ≡ 5)) → (k ≡ Array → ⊥) → (k ≡ Object → ⊥) → k ≡ String
left_string Null e a o = absurd (⊎_elim (λ x. omega arith) (⊎_elim (λ x. omega arith) (λ x. omega arith)) e)
left_string (Boolean b) e a o = absurd (⊎_elim (λ x. omega arith) (⊎_elim (λ x. omega arith) (λ x. omega arith)) e)
left_string Number e a o = absurd (⊎_elim (λ x. omega arith) (⊎_elim (λ x. omega arith) (λ x. omega arith)) e)
left_string String e a o = refl
left_string Array e a o = absurd (a refl)
left_string Object e a o = absurd (o refl)

-- a kind that is one of the first four is neither of the last two
pub no_branch : (k : Kind) → (tag k ≡ 0) ⊎ ((tag k ≡ 1) ⊎ ((tag k ≡ 2) ⊎ (tag k ≡ 3))) → (k ≡ Array → ⊥) × (k ≡ Object → ⊥)
no_branch k e = (λ a. other (ap tag a) (omega arith), λ o. other (ap tag o) (omega arith))
  where
    other : {n : ℕ} → tag k ≡ n → 3 < n → ⊥
    other f h = ⊎_elim (λ x. omega arith) (⊎_elim (λ x. omega arith) (⊎_elim (λ x. omega arith) (λ x. omega arith))) e

-- A value of the kind null is null.
pub null_value : (v : Value) → Null ≡ kind_of v → v ≡ null
null_value v e = go (told Null v e)
  where
    go : {v : Value} → IsKind Null v → v ≡ null
    go is_null = refl

-- A value of the kind of the boolean `b` is the boolean `b`.
pub boolean_value : (b : Bool) (v : Value) → Boolean b ≡ kind_of v → v ≡ boolean b
boolean_value b v e = go (told (Boolean b) v e)
  where
    go : {v : Value} → IsKind (Boolean b) v → v ≡ boolean b
    go (is_a_boolean _) = refl

-- A value of the kind number is a number with some sign and some digits.
pub number_value : (v : Value) → Number ≡ kind_of v → (n : Bool) × (ds : List ℕ) × (v ≡ number n ds)
number_value v e = go (told Number v e)
  where
    go : {v : Value} → IsKind Number v → (n : Bool) × (ds : List ℕ) × (v ≡ number n ds)
    go (is_a_number n ds) = (n, ds, refl)

-- A value of the kind string is a string with some content.
pub string_value : (v : Value) → String ≡ kind_of v → (c : List ℕ) × (v ≡ string c)
string_value v e = go (told String v e)
  where
    go : {v : Value} → IsKind String v → (c : List ℕ) × (v ≡ string c)
    go (is_a_string c) = (c, refl)

-- A value of the kind array is an array of some elements.
pub array_value : (v : Value) → Array ≡ kind_of v → (vs : Values) × (v ≡ array vs)
array_value v e = go (told Array v e)
  where
    go : {v : Value} → IsKind Array v → (vs : Values) × (v ≡ array vs)
    go (is_an_array vs) = (vs, refl)

-- A value of the kind object is an object with some members.
pub object_value : (v : Value) → Object ≡ kind_of v → (fs : Fields) × (v ≡ object fs)
object_value v e = go (told Object v e)
  where
    go : {v : Value} → IsKind Object v → (fs : Fields) × (v ≡ object fs)
    go (is_an_object fs) = (fs, refl)

module _ {s : List ℕ} {at depth : ℕ} {out keys spare : List ℕ} (p : Writable s at depth out keys spare) where
  -- A value of the kind of an array that may be written may be written as an array.
  pub writable_array : Array ≡ kind_of p.value → WritableArray s at depth out keys spare
  writable_array e = let v = array_value p.value e in record { values = v.0; space = space_of v.1 p.space }

  -- A value of the kind of an object that may be written may be written as an object.
  pub writable_object : Object ≡ kind_of p.value → WritableObject s at depth out keys spare
  writable_object e = let v = object_value p.value e in record { fields = v.0; space = space_of v.1 p.space }
