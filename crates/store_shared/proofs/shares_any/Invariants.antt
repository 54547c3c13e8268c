-- No two of the places before this one share a name.
use Rattle.store_shared.proofs.Runs.{NoneTo}
use Rattle.store_shared.proofs.shares_any.Given as goal

abbrev pub invariant-loop-m : goal.invariant-loop-m
invariant-loop-m l = NoneTo l.b l.at l.order l.groups l.start l.m
