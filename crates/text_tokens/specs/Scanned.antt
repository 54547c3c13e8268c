-- What scanning a token, a key and the end of an object in place answers: positions in the whole text stand for the rests that the
-- definitions give.
use Rattle.std.specs.Prelude.{ℕ, ◌+◌, ◌<◌, ◌≤◌, max, ◌≡◌, List, [], ◌∷◌, Bool, true, false, ◌&&◌, length, drop, eqb, Result, Ok, Err}
use Rattle.text_json.specs.Syntax.{Syntax, Char}
use Rattle.text_json.specs.Read.{Read, found, stuck, and_then, spaces, read_word, read_string}
use Rattle.text_json.specs.declared.Token.{Token}
use Rattle.text_json.specs.Scan.{At}
use Rattle.text_keys.specs.Keys.{rising_keys}
use Rattle.text_keys.specs.Repeats.{repeat_left}
use Rattle.text_tokens.specs.Summary.{summary, plain_summary, own_key_count}
use Rattle.text_tokens.specs.declared.After.{After}
use Rattle.text_tokens.specs.declared.Summary.{Summary}
use Rattle.text_tokens.specs.declared.ScannedValue.{ScannedValue}

-- the text ends here, or goes on with neither the mark nor a comma
abbrev pub Misfits : ℕ → List ℕ → Type 0
Misfits mark [] = Unit {0}
Misfits mark (b ∷ s) = (eqb b mark ≡ false) × (eqb b 0x2C ≡ false)

-- the position after the value, the value's summary and how many keys it has itself, or where reading is stuck
abbrev pub ScansValue : List ℕ → Read Syntax → Result ScannedValue ℕ → Type 0
ScansValue s (found t r) (Ok f) = At s f.end r × (f.sum ≡ summary t) × (f.count ≡ own_key_count t)
ScansValue s (found t r) (Err e) = ⊥
ScansValue s (stuck r) (Ok f) = ⊥
ScansValue s (stuck r) (Err e) = At s e r

-- a value that is no fault and whose canonical form has that length
abbrev pub plain_value : ℕ → ℕ → Result ScannedValue ℕ
plain_value e n = Ok (record { end = e; count = 0; sum = plain_summary n })

-- members that hold v, with their keys at the positions ks: one that is equal to an earlier one is a fault, and they are to be in
-- rising order
unfoldable pub closed_summary : List ℕ → Summary → List ℕ → Summary
closed_summary s v ks =
    record {
      string = v.string;
      number = v.number;
      key = max (repeat_left s ks) v.key;
      size = v.size;
      ordered = rising_keys s ks && v.ordered;
    }

-- an object that ends there and has those members
abbrev pub closed_value : List ℕ → ℕ → Summary → List ℕ → Result ScannedValue ℕ
closed_value s e v ks = Ok (record { end = e; count = length ks; sum = closed_summary s v ks })

-- the answer for a literal name whose letters were stepped over
abbrev pub literal_answer : Result ℕ ℕ → ℕ → Result ScannedValue ℕ
literal_answer (Ok e) n = plain_value e n
literal_answer (Err e) n = Err e

-- the answer for a token that ends there and has that length, where these are its faults if it is refused
abbrev pub token_told : Bool → ℕ → ℕ → ℕ → ℕ → Result ScannedValue ℕ
token_told false e n p q = plain_value e n
token_told true e n p q = Ok (record { end = e; count = 0; sum = record { string = p; number = q; key = 0; size = n; ordered = true } })

-- the answer for a token that was scanned
abbrev pub token_answer : Result Token ℕ → ℕ → ℕ → Result ScannedValue ℕ
token_answer (Ok t) p q = token_told t.refused t.end t.size p q
token_answer (Err e) p q = Err e

-- a string, a colon and the spaces round it: what comes before a member's value
unfoldable pub read_key : List ℕ → Read (List Char)
read_key s = and_then (read_string s) (λ cs s₁. and_then (read_word (0x3A ∷ []) (spaces s₁)) (λ _ s₂. found cs (spaces s₂)))

-- what follows an item that ends at `at`: spaces and the end mark, with the position after it; spaces, a comma and spaces, with the
-- position of the next item; or a byte that fits neither, or the end of the text, with its position
abbrev pub Follows : List ℕ → ℕ → ℕ → Result After ℕ → Type 0
Follows s at mark (Ok (After.End e)) = (at < e) × (e ≤ length s) × (spaces (drop at s) ≡ mark ∷ drop e s)
Follows s at mark (Ok (After.More j)) =
    (at < j) × (j ≤ length s) × (q : List ℕ) × (spaces (drop at s) ≡ 0x2C ∷ q) × (drop j s ≡ spaces q) × (eqb 0x2C mark ≡ false)
Follows s at mark (Err e) = At s e (spaces (drop at s)) × Misfits mark (drop e s)

-- a key with its colon has three bytes at least, and its canonical form and the colon are no longer than it is
abbrev pub KeyWithin : ℕ → Result Token ℕ → Type 0
KeyWithin at (Ok t) = (at + 2 < t.end) × (at + t.size < t.end)
KeyWithin at (Err e) = at ≤ e
