-- `test_canonical::is_gap` meets its contract: it answers true only where two bytes stand. Assumes nothing.
use borrow.Author.Rules.{rules}
use mathlib.Core.Path.{◌≡◌}
use mathlib.Core.Bool.{Bool, true, false}
use native.Mathlib.Omega.{arith}
use Prim.Native.Nat.{ℕ}
use Rattle.test_canonical.proofs.is_gap.Statement.{statement}
use Rattle.test_canonical.proofs.is_gap.Tie as tie

false_true : {C : Type 0} → ◌≡◌ {A = Bool} false true → C
false_true e = let z : ◌≡◌ {A = ℕ} 0 1 = cc in absurd (omega arith)

returns-else-at-s-2 : tie.Need-returns-else-at-s-2
returns-else-at-s-2 c = λ e. false_true e

returns-else-s-at-eq10 : tie.Need-returns-else-s-at-eq10
returns-else-s-at-eq10 c = λ e. false_true e

returns-else-at-s : tie.Need-returns-else-at-s
returns-else-at-s c = λ e. false_true e

pub is_gap_spec : {M : Type 1} → statement M
is_gap_spec =
    tie.close (tie.spec (λ c. search rules) (λ c. search rules) (λ c. search rules) (λ c. search rules) (λ c. search rules) returns-else-at-s-2
    returns-else-s-at-eq10 returns-else-at-s)
