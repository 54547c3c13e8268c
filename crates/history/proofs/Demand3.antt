-- Demand 3 holds of every buffer and every list of calls. Assumes nothing.
use Prim.Native.Nat.{ℕ}
use mathlib.Core.List.{List}
use Rattle.history.specs.Calls.{Call}
use Rattle.history.specs.Demand3.{Demand3}
use Rattle.history.proofs.Keeping.{numbers_are, stands_run, run_keeps}
use Rattle.history.proofs.Ordering.{reordered_accepted, reordered_images}
use Rattle.history.proofs.Reporting.{same_reports}

-- After any list of loads a buffer keeps what the ledger has, and the order of the accepted loads does not matter.
pub demand_3 : (lent : List ℕ) (calls : List Call) → Demand3 lent calls
demand_3 lent calls =
    record {
      answers = numbers_are lent calls;
      keeps = run_keeps lent calls;
      order = λ other reordered e q. (
        reordered_accepted lent calls other reordered e q,
        same_reports (stands_run lent calls) (stands_run other reordered) (reordered_images lent calls other reordered e q),
      );
    }
