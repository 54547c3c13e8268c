-- Demand 3 (document 01, "Demand 3, word by word"): what a store holds after a list of loads, refused ones included, and that their order does not
-- matter. One claim about the whole list; that it holds of every buffer and every list is `demand_3` in proofs/Demand3.
use Rattle.std.specs.Prelude.{ℕ, ◌≡◌, true, length, take, drop}
use mathlib.Core.List.{List, map, Permᴰ as Permutation}
use Rattle.store_record.specs.Store.{store_of}
use Rattle.store_open.specs.Held.{well_formed}
use Rattle.history.specs.Calls.{Call, State, run, numbers, accepted}
use Rattle.history.specs.Ledger.{ledger, ledger_numbers}
use Rattle.history.specs.Reports.{SameReports}

-- after some calls on a buffer that was lent at first
pub record Kept (lent : List ℕ) (calls : List Call) (s : State) : Type 0 where
  -- the buffer up to the used count is the ledger's records in order
  pub used : s.used ≡ length (store_of (ledger (length lent) calls))
  pub records : take s.used s.buffer ≡ store_of (ledger (length lent) calls)
  -- its length stays, and so do the bytes past the used count
  pub size : length s.buffer ≡ length lent
  pub rest : drop s.used s.buffer ≡ drop s.used lent
  -- the store is well-formed
  pub is_well_formed : well_formed s.buffer s.used ≡ true

-- every call of the list is accepted: its number is 0
abbrev pub AllAccepted : List ℕ → List Call → Type 0
AllAccepted lent calls = numbers lent calls ≡ map (λ (c : Call). 0) calls

pub record Demand3 (lent : List ℕ) (calls : List Call) : Type 0 where
  -- each call's number is the ledger's
  pub answers : numbers lent calls ≡ ledger_numbers (length lent) calls
  -- what the store holds, and what the buffer keeps
  pub keeps : Kept lent calls (run lent calls)
  -- the accepted calls in any order, in any buffer of that length: all are accepted, and the pairs of Image IDs are the same
  pub order :
      (other : List ℕ) (reordered : List Call) → length other ≡ length lent → Permutation (accepted lent calls) reordered
      → AllAccepted other reordered × SameReports (run lent calls) (run other reordered)
