-- The answer for the places from this one on is the answer for all.
use Rattle.std.proofs.Common.{◌≡◌, ◌-◌, drop, take, get_or, ℕ, eqb}
use Rattle.laws.specs.Any.{any_of}
use Rattle.store_names.specs.Shared.{group_of}
use Rattle.store_shared.proofs.meets.Given as goal

abbrev pub invariant-loop-f : goal.invariant-loop-f
invariant-loop-f l =
    any_of (λ (e : ℕ). eqb (group_of l.groups (get_or l.order l.m 0)) (group_of l.groups e)) (drop l.f-index (take (l.m - l.start) (drop l.start l.order)))
    ≡ any_of (λ (e : ℕ). eqb (group_of l.groups (get_or l.order l.m 0)) (group_of l.groups e)) (take (l.m - l.start) (drop l.start l.order))
