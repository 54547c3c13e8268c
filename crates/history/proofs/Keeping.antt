-- A list of loads: the numbers are the ledger's, and the buffer keeps what the ledger has. Assumes nothing.
use Rattle.std.specs.Prelude.{Some}
use Prim.Native.Nat.{ℕ}
use mathlib.Core.Path.{◌≡◌, refl}
use mathlib.Core.List.{List, [], ◌∷◌}
use native.Mathlib.Omega.{arith}
use lib.ListN.{length}
use Rattle.laws.specs.Any.{any_of, any_pair}
use Rattle.store_record.specs.Image.{Image}
use Rattle.store_record.specs.Ids.{id_twice}
use Rattle.store_record.specs.Store.{store_of, none_shaped}
use Rattle.store_keys.specs.Clash.{any_clash}
use Rattle.store_open.specs.Held.{held, is_broken, well_formed}
use Rattle.store_open.proofs.Holding.{parts_sound, used_is}
use Rattle.history.specs.Calls.{Call, State, after, start, numbers_from, numbers, run_from, run}
use Rattle.history.specs.Ledger.{ledger, ledger_from, ledger_after, ledger_numbers, ledger_numbers_from}
use Rattle.history.specs.Demand3.{Kept}
use Rattle.history.proofs.Stepping.{Stands, stands_held, number_is, stands_after}

module _ (lent : List ℕ) where
  -- A buffer as it is lent holds nothing.
  pub stands_start : Stands lent (start lent) []
  unfolding start store_of any_of id_twice any_clash any_pair
  stands_start =
      record {
        holds = record { within = omega arith; bytes = refl; few = omega arith; each = none_shaped };
        sound = parts_sound (length lent) [] (record { few = omega arith; fits = omega arith; fit = refl; ids = refl; names = refl });
        size = refl;
        rest = refl;
      }

  -- The numbers of a list of calls are the ledger's, from any state on.
  pub numbers_from_is : (s : State) (xs : List Image) → Stands lent s xs → (cs : List Call) → numbers_from s cs ≡ ledger_numbers_from (length lent) xs cs
  unfolding numbers_from ledger_numbers_from
  numbers_from_is s xs h [] = refl
  numbers_from_is s xs h (c ∷ cs) =
      λ i. number_is lent s xs h c i ∷ numbers_from_is (after s c) (ledger_after (length lent) xs c) (stands_after lent s xs h c) cs i

  -- After a list of calls the buffer holds what the ledger has, from any state on.
  pub stands_from : (s : State) (xs : List Image) → Stands lent s xs → (cs : List Call) → Stands lent (run_from s cs) (ledger_from (length lent) xs cs)
  unfolding run_from ledger_from
  stands_from s xs h [] = h
  stands_from s xs h (c ∷ cs) = stands_from (after s c) (ledger_after (length lent) xs c) (stands_after lent s xs h c) cs

  module _ (calls : List Call) where
    -- The numbers of a list of calls are the ledger's.
    pub numbers_are : numbers lent calls ≡ ledger_numbers (length lent) calls
    unfolding numbers ledger_numbers
    numbers_are = numbers_from_is (start lent) [] stands_start calls

    -- After a list of calls the buffer holds what the ledger has.
    pub stands_run : Stands lent (run lent calls) (ledger (length lent) calls)
    unfolding run ledger
    stands_run = stands_from (start lent) [] stands_start calls

    -- The images that a buffer holds after a list of calls are the ledger.
    pub run_held : held (run lent calls).buffer (run lent calls).used ≡ Some (ledger (length lent) calls)
    run_held = stands_held lent (run lent calls) (ledger (length lent) calls) stands_run

    -- What a buffer keeps after a list of calls is what the ledger has, in a well-formed store.
    pub run_keeps : Kept lent calls (run lent calls)
    unfolding well_formed is_broken
    run_keeps =
        let s = run lent calls in
        let h = stands_run in
        record {
          used = used_is s.buffer s.used (ledger (length lent) calls) h.holds;
          records = h.holds.bytes;
          size = h.size;
          rest = h.rest;
          is_well_formed = rw (run_held, h.size) (rw h.sound);
        }
