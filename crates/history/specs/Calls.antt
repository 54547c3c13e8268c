-- A list of loads in one buffer (document 01, "Demand 3, word by word"), by the definitions that the promise of `acon_load` equates with.
use Rattle.std.specs.Prelude.{ℕ, true, false, List, [], ◌∷◌, eqb}
use Rattle.store.specs.Load.{load_number, load_used, load_bytes}

-- a load: its Image ID and its manifest
pub record Call : Type 0 where
  pub id : List ℕ
  pub manifest : List ℕ

-- a buffer as the last call left it, and the used count of the last accepted call, 0 before any
pub record State : Type 0 where
  pub buffer : List ℕ
  pub used : ℕ

-- the number that a call is answered
unfoldable pub call_number : State → Call → ℕ
call_number s c = load_number c.id c.manifest s.buffer s.used

-- the 0 in a refusal is no used count
unfoldable pub after : State → Call → State
after s c = record {
  buffer = load_bytes c.id c.manifest s.buffer s.used;
  used = elim (eqb (call_number s c) 0) [ true ↦ load_used c.id c.manifest s.buffer s.used | false ↦ s.used ];
}

unfoldable pub run_from : State → List Call → State
run_from s [] = s
run_from s (c ∷ cs) = run_from (after s c) cs

unfoldable pub numbers_from : State → List Call → List ℕ
numbers_from s [] = []
numbers_from s (c ∷ cs) = call_number s c ∷ numbers_from (after s c) cs

-- the calls that are answered 0
unfoldable pub accepted_from : State → List Call → List Call
accepted_from s [] = []
accepted_from s (c ∷ cs) = elim (eqb (call_number s c) 0) [ true ↦ c ∷ accepted_from (after s c) cs | false ↦ accepted_from (after s c) cs ]

-- a list of calls starts at used count 0, in a buffer with any bytes
unfoldable pub start : List ℕ → State
start buffer = record { buffer = buffer; used = 0 }

unfoldable pub run : List ℕ → List Call → State
run buffer cs = run_from (start buffer) cs

unfoldable pub numbers : List ℕ → List Call → List ℕ
numbers buffer cs = numbers_from (start buffer) cs

unfoldable pub accepted : List ℕ → List Call → List Call
accepted buffer cs = accepted_from (start buffer) cs
