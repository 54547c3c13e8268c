-- Contents whose numbers are accepted.
use Prim.Native.Nat.{ℕ}
use mathlib.Core.Path.{◌≡◌}
use mathlib.Core.List.{List}
use mathlib.Core.Bool.{Bool, true, false, not}
use Rattle.laws.specs.Order.{leq}
use Rattle.laws.proofs.Order.{by_test}
use Rattle.text_json.specs.Syntax.{Numeral, Syntax, Elements, Members}
use Rattle.text_json.specs.Grammar
use Rattle.text_json.specs.Content.{refused_number}
use Rattle.text_content.specs.Value.{Value, Values, Fields, number, array, object, value, field, content}
use Rattle.text_content.specs.Value.{contents, fields}
use Rattle.text_content.specs.Canonical.{insert_field, sorted, sorted_values, sorted_fields}
use Rattle.text_content.specs.Fault.{number_fault, number_faults, member_number_faults}
use Rattle.text_content.proofs.Basic.{or_right, max_left, max_right}
use Rattle.text_content.proofs.Each.{Each, EachValue, EachField, each_null, each_boolean, each_number, each_string, each_array, each_object, each_none}
use Rattle.text_content.proofs.Each.{each_value, each_empty, each_field}
use Rattle.text_content.proofs.Formed.{Formed, FormedElements, FormedMembers, formed_null, formed_boolean, formed_number, formed_string, formed_array}
use Rattle.text_content.proofs.Formed.{formed_object, formed_none, formed_element, formed_empty, formed_member, formed, unmarked}

-- every number is accepted when it is written as a whole number
abbrev Accepted : Bool → List ℕ → Type 0
Accepted n ds = refused_number (record { negative = n; digits = ds; whole = true }) ≡ false

abbrev pub InRange : Value → Type 0
InRange = Each Accepted (λ k fs. Unit {0})

abbrev pub InRangeValues : Values → Type 0
InRangeValues = EachValue Accepted (λ k fs. Unit {0})

abbrev pub InRangeFields : Fields → Type 0
InRangeFields = EachField Accepted (λ k fs. Unit {0})

-- the parts
pub range_of_array : {vs : Values} → InRange (array vs) → InRangeValues vs
range_of_array (each_array h) = h

-- If every number of an object is accepted, every number of its members is.
pub range_of_object : {fs : Fields} → InRange (object fs) → InRangeFields fs
range_of_object (each_object h) = h

-- A number that is accepted in a content is not refused as a whole number.
pub range_of_number : {n : Bool} {ds : List ℕ} → InRange (number n ds) → refused_number (record { negative = n; digits = ds; whole = true }) ≡ false
range_of_number (each_number e) = e

-- If every number of some elements is accepted, so is every number of the first element and of the others.
pub range_of_value : {v : Value} {vs : Values} → InRangeValues (value v vs) → (InRange v) × (InRangeValues vs)
range_of_value (each_value p h) = (p, h)

-- If every number of some members is accepted, so is every number of the first member and of the others.
pub range_of_field : {k : List ℕ} {v : Value} {fs : Fields} → InRangeFields (field k v fs) → (InRange v) × (InRangeFields fs)
range_of_field (each_field u p h) = (p, h)

-- the numbers of an accepted tree
whole_accepted : (n : Numeral) → refused_number n ≡ false → refused_number (record { negative = n.negative; digits = n.digits; whole = true }) ≡ false
unfolding refused_number
whole_accepted n e = or_right (not n.whole) _ e

mutual
  unfolding content number_fault

  range_formed : {d : ℕ} {t : Syntax} → Formed d t → number_fault t ≡ 0 → InRange (content t)
  range_formed formed_null e = each_null
  range_formed formed_boolean e = each_boolean
  range_formed (formed_number {n = n} p i) e = each_number (whole_accepted n (unmarked p (refused_number n) e))
  range_formed (formed_string p) e = each_string
  range_formed (formed_array h) e = each_array (range_elements h e)
  range_formed (formed_object h) e = each_object (range_members h e)

  range_elements : {d : ℕ} {es : Elements} → FormedElements d es → number_faults es ≡ 0 → InRangeValues (contents es)
  range_elements formed_none e = each_none
  range_elements (formed_element {t = t} {es = es} h hs) e =
      each_value (range_formed h (max_left (number_fault t) (number_faults es) e)) (range_elements hs (max_right (number_fault t) (number_faults es) e))

  range_members : {d : ℕ} {ms : Members} → FormedMembers d ms → member_number_faults ms ≡ 0 → InRangeFields (fields ms)
  range_members formed_empty e = each_empty
  range_members (formed_member {t = t} {ms = ms} q h hs) e =
      each_field tt (range_formed h (max_left (number_fault t) (member_number_faults ms) e))
      (range_members hs (max_right (number_fault t) (member_number_faults ms) e))

-- If a value of the text has no number fault, every number of its content is accepted.
pub content_in_range : (d : ℕ) (s : List ℕ) (t : Syntax) (r : List ℕ) → Grammar.Value d s t r → number_fault t ≡ 0 → InRange (content t)
content_in_range d s t r h e = range_formed (formed d s t r h) e

-- sorting keeps that
range_insert : (k : List ℕ) {v : Value} {fs : Fields} → InRange v → InRangeFields fs → InRangeFields (insert_field k v fs)
unfolding insert_field
range_insert k p each_empty = each_field tt p each_empty
range_insert k {v} p (each_field {k = j} {v = w} {fs = fs} u q h) = by_test (leq k j) before (after (range_insert k p h))
  where
    before : leq k j ≡ true → InRangeFields (insert_field k v (field j w fs))
    before e = rw (e, insert_field) (each_field tt p (each_field tt q h))

    after : InRangeFields (insert_field k v fs) → leq k j ≡ false → InRangeFields (insert_field k v (field j w fs))
    after ih e = rw (e, insert_field) (each_field tt q ih)

mutual
  unfolding sorted

  -- If every number of a content is accepted, so is every number of the sorted content.
  pub range_sorted : {v : Value} → InRange v → InRange (sorted v)
  range_sorted each_null = each_null
  range_sorted each_boolean = each_boolean
  range_sorted (each_number e) = each_number e
  range_sorted each_string = each_string
  range_sorted (each_array h) = each_array (range_sorted_values h)
  range_sorted (each_object h) = each_object (range_sorted_fields h)

  range_sorted_values : {vs : Values} → InRangeValues vs → InRangeValues (sorted_values vs)
  range_sorted_values each_none = each_none
  range_sorted_values (each_value p h) = each_value (range_sorted p) (range_sorted_values h)

  range_sorted_fields : {fs : Fields} → InRangeFields fs → InRangeFields (sorted_fields fs)
  range_sorted_fields each_empty = each_empty
  range_sorted_fields (each_field {k = k} u p h) = range_insert k (range_sorted p) (range_sorted_fields h)
