-- `text::by_faults` meets its contract. Assumes nothing.
use borrow.Author.Rules.{rules}
use Rattle.text.proofs.Checks.{bad_string, bad_number, same_keys, accepted}
use Rattle.text.proofs.by_faults.Statement.{statement}
use Rattle.text.proofs.by_faults.Tie as tie

returns-then-sum-gt0 : tie.Need-returns-then-sum-gt0
returns-then-sum-gt0 c = λ t e. bad_string _ t e _ _ _ c.offset.ensures c.if-sum-gt0.true

returns-then-sum-gt0-2 : tie.Need-returns-then-sum-gt0-2
returns-then-sum-gt0-2 c = λ t e. bad_number _ t e _ _ c.if-sum-gt0.false _ c.offset-then-sum-gt0-2.ensures c.if-sum-gt0-2.true

returns-then-sum-gt0-3 : tie.Need-returns-then-sum-gt0-3
returns-then-sum-gt0-3 c = λ t e. same_keys _ t e _ _ c.if-sum-gt0.false c.if-sum-gt0-2.false _ c.offset-then-sum-gt0-3.ensures
    c.if-sum-gt0-3.true

returns : tie.Need-returns
returns c = λ t e. accepted _ t e _ _ c.if-sum-gt0.false c.if-sum-gt0-2.false c.if-sum-gt0-3.false

pub by_faults_spec : {M : Type 1} → statement M
by_faults_spec =
    tie.close (tie.spec (λ c κs. search rules) returns-then-sum-gt0 (λ c κs. search rules) returns-then-sum-gt0-2 (λ c κs. search rules) returns-then-sum-gt0-3 returns)
