-- What checking a text answers, with document 01's number and the place of each fault; and what canonical answers and writes.
use Rattle.std.specs.Prelude.{ℕ, ◌-◌, List, [], ◌++◌, Bool, true, false, ◌&&◌, length, drop, ltb, eqb, Result, Ok, Err}
use Rattle.laws.specs.Order.{same}
use Rattle.text_utf8.specs.Utf8.{verdict}
use Rattle.text_json.specs.Syntax.{Syntax}
use Rattle.text_json.specs.Read.{Read, found, stuck, read_text}
use Rattle.text_content.specs.Value.{content}
use Rattle.text_content.specs.Canonical.{canonical, ordered}
use Rattle.text_content.specs.Fault.{string_fault, number_fault, key_fault}
use Rattle.text.specs.Question.{is_too_long, text_number}
use Rattle.text.specs.declared.Fault.{Fault}
use Rattle.text.specs.declared.Fault.TheVariants.{TooLong, NotUtf8, NotJson, BadString, BadNumber, SameKeys}
use Rattle.text.specs.declared.Accepted.{Accepted}
use Rattle.text.specs.Accepted.{accepted_text}

-- the number of each fault in document 01's table ("What comes back")
abbrev pub fault_number : Fault → ℕ
fault_number TooLong = 1
fault_number (NotUtf8 k) = 2
fault_number (NotJson k) = 3
fault_number (BadString k) = 4
fault_number (BadNumber k) = 5
fault_number (SameKeys k) = 6

-- the offset of each fault; a text that is too long has none, which is told by 0
abbrev pub fault_place : Fault → ℕ
fault_place TooLong = 0
fault_place (NotUtf8 k) = k
fault_place (NotJson k) = k
fault_place (BadString k) = k
fault_place (BadNumber k) = k
fault_place (SameKeys k) = k

-- document 01's number for an answer, 0 where the text is taken
abbrev pub number_of : Result Accepted Fault → ℕ
number_of (Ok a) = 0
number_of (Err f) = fault_number f

-- the offset of the fault that an answer tells, 0 where the text is taken
abbrev pub place_of : Result Accepted Fault → ℕ
place_of (Ok a) = 0
place_of (Err f) = fault_place f

-- The answer for a text of n bytes with the syntax tree t, where c says whether it is its own form. A fault's offset is the text's length
-- less what is left from the fault on.
unfoldable pub by_faults : ℕ → Bool → Syntax → Result Accepted Fault
by_faults n c t =
    elim (ltb 0 (string_fault t)) [
      | true ↦ Err (BadString (n - string_fault t))
      | false ↦
          elim (ltb 0 (number_fault t)) [
            | true ↦ Err (BadNumber (n - number_fault t))
            | false ↦
                elim (ltb 0 (key_fault t)) [ true ↦ Err (SameKeys (n - key_fault t)) | false ↦ accepted_text (length (canonical (content t))) c ]
          ]
    ]

unfoldable pub by_tree : List ℕ → Read Syntax → Result Accepted Fault
by_tree s (found t r) = by_faults (length s) (same (canonical (content t)) s) t
by_tree s (stuck r) = Err (NotJson (length s - length r))

unfoldable pub by_verdict : List ℕ → Result (Unit {0}) ℕ → Result Accepted Fault
by_verdict s (Ok tt) = by_tree s (read_text 8 s)
by_verdict s (Err k) = Err (NotUtf8 k)

-- the fault of the lowest number that applies, or the length of the canonical form and whether the text is that form
unfoldable pub checked : List ℕ → Result Accepted Fault
checked s = elim (is_too_long s) [ true ↦ Err TooLong | false ↦ by_verdict s (verdict s) ]

-- request 2026-01: the offset of the fault for the numbers 2 to 6, and else 0
unfoldable pub text_place : List ℕ → ℕ
text_place s = place_of (checked s)

-- the canonical form of a text
unfoldable pub form_of : Read Syntax → List ℕ
form_of (found t r) = canonical (content t)
form_of (stuck r) = []

unfoldable pub form : List ℕ → List ℕ
form s = form_of (read_text 8 s)

-- canonical's number by what checking answers, for a buffer of m bytes: that of the fault, or 20, output longer than the buffer
abbrev pub number_within : Result Accepted Fault → ℕ → ℕ
number_within (Err f) m = fault_number f
number_within (Ok a) m = elim (ltb m a.length) [ true ↦ 20 | false ↦ 0 ]

unfoldable pub canonical_number : List ℕ → ℕ → ℕ
canonical_number s m = number_within (checked s) m

-- the length of the output, 0 in a refusal
unfoldable pub canonical_length : List ℕ → ℕ → ℕ
canonical_length s m = elim (eqb (canonical_number s m) 0) [ true ↦ length (form s) | false ↦ 0 ]

-- the buffer afterwards: a refusal changes no byte, and the bytes past the output stay
unfoldable pub canonical_bytes : List ℕ → List ℕ → List ℕ
canonical_bytes s out =
    elim (eqb (canonical_number s (length out)) 0) [ true ↦ form s ++ drop (length (form s)) out | false ↦ out ]

-- the text is accepted and is its own canonical form
unfoldable pub is_canonical : List ℕ → Bool
is_canonical s = eqb (text_number s) 0 && same (form s) s

-- the same of a text of n bytes by its syntax tree: it is as long as the form, and the keys of every object are in rising order
unfoldable pub is_form : ℕ → Syntax → Bool
is_form n t = eqb (length (canonical (content t))) n && ordered (content t)
