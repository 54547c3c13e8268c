-- The length of a canonical form: sorting does not change it, and it is a sum over the syntax tree.
use Prim.Native.Nat.{ℕ, ◌+◌, ◌-◌, ◌≤◌, max}
use mathlib.Core.Path.{◌≡◌, refl, sym, ◌∙◌}
use mathlib.Core.List.{List, [], ◌∷◌, ◌++◌}
use mathlib.Core.Bool.{true, false}
use native.Mathlib.Omega.{arith}
use lib.ListN.{length, length-append}
use Rattle.laws.specs.Order.{leq}
use Rattle.laws.proofs.Order.{by_test}
use Rattle.text_json.specs.Syntax.{Syntax, Elements, Members, no_elements, element, no_members, member, elements, members, Member}
use Rattle.text_json.specs.Content.{unescape, quoted, signed}
use Rattle.text_content.specs.Value.{Value, Values, Fields, null, boolean, number, string, array, object, no_values, value, no_fields, field, content}
use Rattle.text_content.specs.Value.{contents, fields}
use Rattle.text_content.specs.Canonical.{insert_field, sorted, sorted_values, sorted_fields, comma, write, write_values, write_fields, canonical}

-- what follows a first value or member has one comma less before it
size_first_value : (vs : Values) → length (write_values true vs) ≡ length (write_values false vs) - 1
unfolding write_values comma
size_first_value no_values = refl
size_first_value (value v vs) = simp length-append (omega arith)

size_first_field : (fs : Fields) → length (write_fields true fs) ≡ length (write_fields false fs) - 1
unfolding write_fields comma
size_first_field no_fields = refl
size_first_field (field k v fs) = simp length-append (omega arith)

-- one more member, wherever it stands, adds a comma, its key, a colon and its value
size_field : (k : List ℕ) (v : Value) (fs : Fields)
    → length (write_fields false (field k v fs)) ≡ length (quoted k) + length (write v) + 2 + length (write_fields false fs)
unfolding write_fields comma
size_field k v fs = simp length-append (omega arith)

size_value : (v : Value) (vs : Values) → length (write_values false (value v vs)) ≡ length (write v) + 1 + length (write_values false vs)
unfolding write_values comma
size_value v vs = simp length-append (omega arith)

size_insert : (k : List ℕ) (v : Value) (fs : Fields)
    → length (write_fields false (insert_field k v fs)) ≡ length (quoted k) + length (write v) + 2 + length (write_fields false fs)
unfolding insert_field
size_insert k v no_fields = size_field k v no_fields
size_insert k v (field j w fs) = by_test (leq k j) (λ e. rw (e, insert_field) (size_field k v (field j w fs))) (go (size_insert k v fs))
  where
    go : length (write_fields false (insert_field k v fs)) ≡ length (quoted k) + length (write v) + 2 + length (write_fields false fs)
        → leq k j ≡ false
        → length (write_fields false (insert_field k v (field j w fs))) ≡ length (quoted k) + length (write v) + 2 + length (write_fields false (field j w fs))
    go ih e = rw (e, insert_field) (simp size_field (omega arith))

-- sorting does not change the length
mutual
  unfolding sorted write comma

  -- A sorted content is written with as many bytes as the content itself.
  pub sorted_size : (v : Value) → length (write (sorted v)) ≡ length (write v)
  sorted_size null = refl
  sorted_size (boolean b) = refl
  sorted_size (number n ds) = refl
  sorted_size (string s) = refl
  sorted_size (array vs) = simp length-append (omega (arith, size_first_value vs, size_first_value (sorted_values vs), sorted_size_values vs))
  sorted_size (object fs) = simp length-append (omega (arith, size_first_field fs, size_first_field (sorted_fields fs), sorted_size_fields fs))

  sorted_size_values : (vs : Values) → length (write_values false (sorted_values vs)) ≡ length (write_values false vs)
  sorted_size_values no_values = refl
  sorted_size_values (value v vs) = simp (length-append, sorted_size v, sorted_size_values vs)

  sorted_size_fields : (fs : Fields) → length (write_fields false (sorted_fields fs)) ≡ length (write_fields false fs)
  sorted_size_fields no_fields = refl
  sorted_size_fields (field k v fs) = size_insert k (sorted v) (sorted_fields fs) ∙ simp (sorted_size v, sorted_size_fields fs) (sym (size_field k v fs))

-- The length of the canonical form, added up over a syntax tree. An element counts with the mark after it, a comma or the end mark;
-- so does a member, which is its quoted key, a colon and its value.

-- the elements or members of an array or an object and its opening mark; an empty one has two marks
unfoldable pub enclosed : ℕ → ℕ
enclosed sum = max 2 (1 + sum)

unfoldable mutual
  -- The size of a syntax tree: the length of its canonical form, added up over its parts.
  pub size_of : Syntax → ℕ
  size_of Syntax.null = 4
  size_of (Syntax.boolean b) = elim b [ true ↦ 4 | false ↦ 5 ]
  size_of (Syntax.number p n) = length (signed n.negative n.digits)
  size_of (Syntax.string p cs) = length (quoted (unescape cs))
  size_of (Syntax.array es) = enclosed (size_of_elements es)
  size_of (Syntax.object ms) = enclosed (size_of_members ms)

  -- The size of an array's elements, each with one byte for the mark after it.
  pub size_of_elements : Elements → ℕ
  size_of_elements no_elements = 0
  size_of_elements (element t es) = size_of t + 1 + size_of_elements es

  -- The size of an object's members: for each its quoted key, a colon, its value and one byte for the mark after it.
  pub size_of_members : Members → ℕ
  size_of_members no_members = 0
  size_of_members (member p cs t ms) = length (quoted (unescape cs)) + 1 + size_of t + 1 + size_of_members ms

-- The enclosed size of an empty array or object is 2.
pub size_empty : enclosed 0 ≡ 2
unfolding enclosed
size_empty = refl

-- The enclosed size of elements or members of size 1 or more is that size and 1 for the opening mark.
pub size_enclosed : (sum : ℕ) → 1 ≤ sum → enclosed sum ≡ 1 + sum
unfolding enclosed
size_enclosed sum h = omega arith

-- sums of parts that are read one after the other
pub size_elements_append : (ts us : List Syntax) → size_of_elements (elements (ts ++ us)) ≡ size_of_elements (elements ts) + size_of_elements (elements us)
unfolding elements size_of_elements
size_elements_append [] us = omega arith
size_elements_append (t ∷ ts) us = simp (size_elements_append ts us) (omega arith)

-- The size of members followed by other members is the sum of both sizes.
pub size_members_append : (ms ns : List Member) → size_of_members (members (ms ++ ns)) ≡ size_of_members (members ms) + size_of_members (members ns)
unfolding members size_of_members
size_members_append [] ns = omega arith
size_members_append (m ∷ ms) ns = simp (size_members_append ms ns) (omega arith)

mutual
  unfolding size_of write content enclosed comma

  size_written : (t : Syntax) → size_of t ≡ length (write (content t))
  size_written Syntax.null = refl
  size_written (Syntax.boolean true) = refl
  size_written (Syntax.boolean false) = refl
  size_written (Syntax.number p n) = refl
  size_written (Syntax.string p cs) = refl
  size_written (Syntax.array es) = simp length-append (omega (arith, size_first_value (contents es), size_values es))
  size_written (Syntax.object ms) = simp length-append (omega (arith, size_first_field (fields ms), size_fields ms))

  size_values : (es : Elements) → size_of_elements es ≡ length (write_values false (contents es))
  size_values no_elements = refl
  size_values (element t es) = simp (length-append, size_written t, size_values es) (omega arith)

  size_fields : (ms : Members) → size_of_members ms ≡ length (write_fields false (fields ms))
  size_fields no_members = refl
  size_fields (member p cs t ms) = simp (length-append, size_written t, size_fields ms) (omega arith)

-- the size of a syntax tree is the length of its canonical form
pub size_canonical : (t : Syntax) → size_of t ≡ length (canonical (content t))
unfolding canonical
size_canonical t = size_written t ∙ sym (sorted_size (content t))
