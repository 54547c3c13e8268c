-- What a function that reads in place answers: positions in the whole text stand for the rests that the definitions give.
use Rattle.std.specs.Prelude.{ℕ, ◌≤◌, ◌≡◌, List, Bool, length, drop, Result, Ok, Err}
use Rattle.text_json.specs.Read.{Read, found, stuck}
use Rattle.text_json.specs.declared.Token.{Token}

-- position e of the text s is the place r
abbrev pub At : List ℕ → ℕ → List ℕ → Type 0
At s e r = (e ≤ length s) × (r ≡ drop e s)

-- the step says where reading ended, or where it is stuck
abbrev pub Steps : {A : Type 0} → List ℕ → Read A → Result ℕ ℕ → Type 0
Steps s (found x r) (Ok e) = At s e r
Steps s (found x r) (Err e) = ⊥
Steps s (stuck r) (Ok e) = ⊥
Steps s (stuck r) (Err e) = At s e r

-- the scan says where the token ends, whether it is refused, and how long its canonical form is; or where reading is stuck
abbrev pub ScansToken : {A : Type 0} → (A → Bool) → (A → ℕ) → List ℕ → Read A → Result Token ℕ → Type 0
ScansToken refused size s (found x r) (Ok t) = At s t.end r × (t.refused ≡ refused x) × (t.size ≡ size x)
ScansToken refused size s (found x r) (Err e) = ⊥
ScansToken refused size s (stuck r) (Ok t) = ⊥
ScansToken refused size s (stuck r) (Err e) = At s e r
