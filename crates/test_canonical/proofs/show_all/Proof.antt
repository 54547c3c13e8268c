use Prim.Native.Nat.{◌-◌, ◌≤◌}
use mathlib.Core.Logic.{⊎_elim}
use native.Mathlib.Omega.{arith}
use lib.ListN.{length}
use borrow.Author.Rules.{rules}
use Rattle.test_canonical.proofs.show_all.Statement.{statement}
use Rattle.test_canonical.proofs.show_all.Tie as tie

abbrev invariant-loop : tie.invariant-loop-i
invariant-loop s start₀ i₀ start i = (start ≤ i) × (i ≤ length s)

abbrev decreases-loop : tie.decreases-loop-i
decreases-loop s start₀ i₀ start i = length s - i

overflow_add-start : tie.Need-overflow_add-start invariant-loop decreases-loop
overflow_add-start c = omega (arith, c.is_gap.ensures c.if-is_gap.true)

overflow_add-i-in-loop-i : tie.Need-overflow_add-i-in-loop-i invariant-loop decreases-loop
overflow_add-i-in-loop-i c = ⊎_elim (λ w. omega (arith, c.is_gap.ensures w.if-is_gap.true)) (λ w. omega arith) c.if-is_gap.branch-raw

loop-i-smaller : tie.Need-loop-i-smaller invariant-loop decreases-loop
loop-i-smaller c = ⊎_elim (λ w. omega (arith, c.is_gap.ensures w.if-is_gap.true)) (λ w. omega arith) c.if-is_gap.branch-raw

loop-i-preserved : tie.Need-loop-i-preserved invariant-loop decreases-loop
loop-i-preserved c = ⊎_elim (λ w. omega (arith, c.is_gap.ensures w.if-is_gap.true)) (λ w. omega arith) c.if-is_gap.branch-raw

pub show_all_spec : {M : Type 1} → statement M
show_all_spec =
    tie.close (tie.spec invariant-loop decreases-loop (λ c. search rules) (λ c κs. search rules) (λ c. search rules) (λ c. search rules)
    (λ c. search rules) (λ c κs. search rules) (λ c. search rules) overflow_add-start overflow_add-i-in-loop-i loop-i-smaller loop-i-preserved
    (λ c. search rules) (λ c. search rules) (λ c. search rules) (λ c κs. search rules) (λ c. search rules))
