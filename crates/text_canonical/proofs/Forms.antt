-- The canonical forms of arrays and objects, piece by piece.
use Prim.Native.Nat.{ℕ, suc, ◌+◌, ◌*◌, ◌≤◌}
use mathlib.Core.Path.{◌≡◌, refl, sym, ap, ◌∙◌}
use mathlib.Core.List.{List, [], ◌∷◌, ◌++◌, append_assoc}
use mathlib.Core.Bool.{Bool, true, false}
use native.Mathlib.Omega.{arith}
use lib.ListN.{length, length-append}
use Rattle.laws.specs.Order.{leq}
use Rattle.laws.proofs.Order.{by_test}
use Rattle.text_json.specs.Content.{escaped, quoted}
use Rattle.text_content.specs.Value.{Value, Values, Fields, no_values, value, no_fields, field, array, object}
use Rattle.text_content.specs.Canonical.{insert_field, sorted, sorted_values, sorted_fields, comma, write, write_values, write_fields, canonical}
use Rattle.text_content.proofs.Same.{insert_before, insert_after}
use Rattle.text_canonical.specs.Members.{member_form}

-- The canonical form of an array is those of its elements, separated by commas, between brackets.
pub array_form : (vs : Values) → canonical (array vs) ≡ 0x5B ∷ (write_values true (sorted_values vs) ++ (0x5D ∷ []))
unfolding canonical sorted write
array_form vs = refl

-- The canonical form of an object is its sorted members, separated by commas, between braces.
pub object_form : (fs : Fields) → canonical (object fs) ≡ 0x7B ∷ (write_fields true (sorted_fields fs) ++ (0x7D ∷ []))
unfolding canonical sorted write
object_form fs = refl

-- No elements are written as no bytes.
pub no_values_form : (first : Bool) → write_values first (sorted_values no_values) ≡ []
unfolding sorted_values write_values
no_values_form first = refl

-- Elements are written as a comma, unless they come first, the canonical form of the first one, and then the others.
pub value_form : (first : Bool) (v : Value) (vs : Values)
    → write_values first (sorted_values (value v vs)) ≡ comma first ++ (canonical v ++ write_values false (sorted_values vs))
unfolding sorted_values write_values canonical
value_form first v vs = refl

-- No members are written as no bytes.
pub no_fields_form : (first : Bool) → write_fields first no_fields ≡ []
unfolding write_fields
no_fields_form first = refl

-- A member with a sorted value is written as a comma, unless it comes first, and its canonical form; then follow the others.
pub field_form : (first : Bool) (k : List ℕ) (v : Value) (fs : Fields)
    → write_fields first (field k (sorted v) fs) ≡ comma first ++ (member_form k v ++ write_fields false fs)
unfolding write_fields canonical
field_form first k v fs = ap (λ (l : List ℕ). comma first ++ l) (sym (append_assoc (quoted k) (0x3A ∷ canonical v) (write_fields false fs)))

-- a comma, or none
pub comma_none : (first : Bool) → first ≡ true → comma first ≡ []
unfolding comma
comma_none first e = rw e

-- An element or member that is not the first has one comma before it.
pub comma_one : (first : Bool) → first ≡ false → comma first ≡ 0x2C ∷ []
unfolding comma
comma_one first e = rw e

-- a key's marks and its colon
pub member_size : (k : List ℕ) (v : Value) → 3 + length (canonical v) ≤ length (member_form k v)
unfolding quoted
member_size k v = omega (arith, length-append (quoted k) (0x3A ∷ canonical v), length-append (escaped k) (0x22 ∷ []))

-- how many members there are
unfoldable pub count : Fields → ℕ
count no_fields = 0
count (field k v fs) = suc (count fs)

count_insert : (k : List ℕ) (v : Value) (fs : Fields) → count (insert_field k v fs) ≡ suc (count fs)
unfolding insert_field count
count_insert k v no_fields = refl
count_insert k v (field j w fs) = go (count_insert k v fs)
  where
    go : count (insert_field k v fs) ≡ suc (count fs) → count (insert_field k v (field j w fs)) ≡ suc (suc (count fs))
    go ih = by_test (leq k j) (λ e. ap count (insert_before k j v w fs e)) (λ e. ap count (insert_after k j v w fs e) ∙ ap suc ih)

count_sorted : (fs : Fields) → count (sorted_fields fs) ≡ count fs
unfolding sorted_fields count
count_sorted no_fields = refl
count_sorted (field k v fs) = count_insert k (sorted v) (sorted_fields fs) ∙ ap suc (count_sorted fs)

-- each key has four bytes of its own
pub fields_size : (fs : Fields) → 4 * count fs ≤ length (write_fields false fs)
unfolding count write_fields comma quoted
fields_size no_fields = omega arith
fields_size (field k v fs) =
    omega (
      arith,
      fields_size fs,
      length-append (quoted k) (0x3A ∷ (write v ++ write_fields false fs)),
      length-append (escaped k) (0x22 ∷ []),
      length-append (write v) (write_fields false fs),
    )

first_size : (fs : Fields) → 4 * count fs ≤ length (write_fields true fs) + 1
unfolding count write_fields comma
first_size no_fields = omega arith
first_size (field k v fs) = omega (arith, fields_size (field k v fs))

-- The canonical form of an object has at least four bytes for each of its members.
pub keys_fit : (fs : Fields) → 4 * count fs ≤ length (canonical (object fs))
keys_fit fs =
    omega (arith, ap length (object_form fs), length-append (write_fields true (sorted_fields fs)) (0x7D ∷ []), first_size (sorted_fields fs), count_sorted fs)
