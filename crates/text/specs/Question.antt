-- The questions 1 to 6 of document 01's table ("What comes back"), each over the whole text, and the number that is given: the
-- lowest that applies, 0 where none does. Where a fault stands is said by `checked` (Answer).
use Rattle.std.specs.Prelude.{ℕ, List, [], ◌∷◌, Bool, true, false, not, length, ltb}
use Rattle.text_utf8.specs.Utf8.{utf8}
use Rattle.text_json.specs.Syntax.{Syntax}
use Rattle.text_json.specs.Read.{Read, found, stuck, read_text}
use Rattle.text_content.specs.Fault.{string_fault, number_fault, key_fault}

-- 1: text over 16,384 bytes
unfoldable pub is_too_long : List ℕ → Bool
is_too_long s = ltb 16384 (length s)

-- 2: text is not UTF-8
unfoldable pub not_utf8 : List ℕ → Bool
not_utf8 s = not (utf8 s)

-- 3: not a JSON text of nesting at most 8
unfoldable pub is_stuck : Read Syntax → Bool
is_stuck (found t r) = false
is_stuck (stuck r) = true

unfoldable pub not_json : List ℕ → Bool
not_json s = is_stuck (read_text 8 s)

-- a JSON text that has such a fault
unfoldable pub faulty : (Syntax → ℕ) → Read Syntax → Bool
faulty fault (found t r) = ltb 0 (fault t)
faulty fault (stuck r) = false

-- 4: a string that is refused; 5: a number that is refused; 6: equal keys
unfoldable pub bad_string : List ℕ → Bool
bad_string s = faulty string_fault (read_text 8 s)

unfoldable pub bad_number : List ℕ → Bool
bad_number s = faulty number_fault (read_text 8 s)

unfoldable pub same_keys : List ℕ → Bool
same_keys s = faulty key_fault (read_text 8 s)

-- a number of the table, and whether its question applies
pub record Question : Type 0 where
  pub number : ℕ
  pub applies : Bool

unfoldable pub questions : List ℕ → List Question
questions s =
    record { number = 1; applies = is_too_long s }
    ∷ record { number = 2; applies = not_utf8 s }
    ∷ record { number = 3; applies = not_json s }
    ∷ record { number = 4; applies = bad_string s }
    ∷ record { number = 5; applies = bad_number s }
    ∷ record { number = 6; applies = same_keys s }
    ∷ []

-- the first that applies, of questions in rising order of their numbers
unfoldable pub lowest : List Question → ℕ
lowest [] = 0
lowest (q ∷ qs) = elim q.applies [ true ↦ q.number | false ↦ lowest qs ]

unfoldable pub text_number : List ℕ → ℕ
text_number s = lowest (questions s)
