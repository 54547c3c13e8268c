use mathlib.Core.Path.{sym}
use native.Mathlib.Omega.{arith}
use Rattle.laws.proofs.Order.{false_true}
use borrow.Author.Rules.{rules}
use Rattle.text_tokens.proofs.stands.Statement.{statement}
use Rattle.text_tokens.proofs.stands.Tie as tie

returns-then-s-at : tie.Need-returns-then-s-at
returns-then-s-at c = (λ _. (c.if-at-s.true, c.if-s-at.true), λ e. false_true (sym e))

returns-else-s-at : tie.Need-returns-else-s-at
returns-else-s-at c = (λ e. false_true e, λ _ _. c.if-s-at.false)

returns-else-at-s : tie.Need-returns-else-at-s
returns-else-at-s c = (λ e. false_true e, λ _ h. absurd (omega (arith, h, c.if-at-s.false)))

pub stands_spec : {M : Type 1} → statement M
stands_spec =
    tie.close (tie.spec (λ c. search rules) returns-then-s-at returns-else-s-at returns-else-at-s)
