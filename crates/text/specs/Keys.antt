-- The arrays for the keys of a text's objects, and the keys that the checking of a text leaves in them for the writing of its form.
use Rattle.std.specs.Prelude.{ℕ, ◌≤◌, ◌≡◌, List, length, Result, Err, Ok}
use Rattle.text_json.specs.Syntax.{Syntax}
use Rattle.text_json.specs.Read.{found, read_text}
use Rattle.text_scan.specs.Scanned.{KeysOf}
use Rattle.text_tokens.specs.Summary.{own_key_count}
use Rattle.text.specs.Question.{text_number}
use Rattle.text.specs.Answer.{form}
use Rattle.text.specs.declared.Fault.{Fault}
use Rattle.text.specs.declared.CheckedWithKeys.{CheckedWithKeys}
use Rattle.text.specs.declared.Accepted.{Accepted}

-- space for the keys of any text that is not too long
pub record KeySpace (keys spare : List ℕ) : Type 0 where
  pub enough : 4096 ≤ length keys
  pub sorting : length keys ≤ length spare

-- Where a text is taken: n is the number of keys that its value has itself, and if the value is an object, n keys are left that are its
-- own, sorted. A refusal leaves none.
abbrev pub RootKeys : List ℕ → Result Accepted Fault → ℕ → List ℕ → Type 0
RootKeys s (Ok a) n keys = ((t : Syntax) (r : List ℕ) → read_text 8 s ≡ found t r → n ≡ own_key_count t) × KeysOf s (read_text 8 s) n keys
RootKeys s (Err f) n keys = n ≡ 0

-- what is known of a text that is refused
abbrev pub refused_text : Fault → CheckedWithKeys
refused_text f = record { answer = Err f; count = 0 }

-- the answer for a text, with n for its count of keys where the text is taken
abbrev pub with_count : Result Accepted Fault → ℕ → CheckedWithKeys
with_count (Ok a) n = record { answer = Ok a; count = n }
with_count (Err f) n = refused_text f

-- a text that is taken, with space for its form, and the n keys that checking it left
pub record FormReady (s : List ℕ) (n : ℕ) (out keys spare : List ℕ) : Type 0 where
  pub taken : text_number s ≡ 0
  pub fits : length (form s) ≤ length out
  pub space : KeySpace keys spare
  pub sorted : KeysOf s (read_text 8 s) n keys
