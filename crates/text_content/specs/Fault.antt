-- The questions 4, 5 and 6 of document 01's table ("What comes back") over the syntax tree of a text: for each, the place of the first fault.
-- A fault's place is given by how many bytes of the text are left from there on, 0 where there is no fault: so the first fault in
-- the text is the one with the most bytes left.
use Rattle.std.specs.Prelude.{ℕ, max, List, [], ◌∷◌, Bool, true, false, length}
use Rattle.laws.specs.Order.{same}
use Rattle.text_json.specs.Syntax.{Syntax, Elements, Members, null, boolean, number, string, array, object, no_elements, element, no_members, member}
use Rattle.text_json.specs.Content.{unescape, refused_string, refused_number}

unfoldable pub mark : Bool → List ℕ → ℕ
mark faulty place = elim faulty [ true ↦ length place | false ↦ 0 ]

-- question 4: the first string that is refused, keys too
unfoldable mutual
  pub string_fault : Syntax → ℕ
  string_fault null = 0
  string_fault (boolean b) = 0
  string_fault (number p n) = 0
  string_fault (string p cs) = mark (refused_string cs) p
  string_fault (array es) = string_faults es
  string_fault (object ms) = key_string_faults ms

  pub string_faults : Elements → ℕ
  string_faults no_elements = 0
  string_faults (element t es) = max (string_fault t) (string_faults es)

  pub key_string_faults : Members → ℕ
  key_string_faults no_members = 0
  key_string_faults (member p cs t ms) = max (max (mark (refused_string cs) p) (string_fault t)) (key_string_faults ms)

-- question 5: the first number that is refused
unfoldable mutual
  pub number_fault : Syntax → ℕ
  number_fault null = 0
  number_fault (boolean b) = 0
  number_fault (number p n) = mark (refused_number n) p
  number_fault (string p cs) = 0
  number_fault (array es) = number_faults es
  number_fault (object ms) = member_number_faults ms

  pub number_faults : Elements → ℕ
  number_faults no_elements = 0
  number_faults (element t es) = max (number_fault t) (number_faults es)

  pub member_number_faults : Members → ℕ
  member_number_faults no_members = 0
  member_number_faults (member p cs t ms) = max (number_fault t) (member_number_faults ms)

-- the key stands among these
unfoldable pub among : List ℕ → List (List ℕ) → Bool
among k [] = false
among k (j ∷ js) = elim (same k j) [ true ↦ true | false ↦ among k js ]

-- the first key of an object that is equal, unescaped, to one of the earlier keys
unfoldable pub repeated : List (List ℕ) → Members → ℕ
repeated earlier no_members = 0
repeated earlier (member p cs t ms) = max (mark (among (unescape cs) earlier) p) (repeated (unescape cs ∷ earlier) ms)

-- question 6: the first key equal to an earlier one of its object, in any object
unfoldable mutual
  pub key_fault : Syntax → ℕ
  key_fault null = 0
  key_fault (boolean b) = 0
  key_fault (number p n) = 0
  key_fault (string p cs) = 0
  key_fault (array es) = key_faults es
  key_fault (object ms) = max (repeated [] ms) (member_key_faults ms)

  pub key_faults : Elements → ℕ
  key_faults no_elements = 0
  key_faults (element t es) = max (key_fault t) (key_faults es)

  pub member_key_faults : Members → ℕ
  member_key_faults no_members = 0
  member_key_faults (member p cs t ms) = max (key_fault t) (member_key_faults ms)
