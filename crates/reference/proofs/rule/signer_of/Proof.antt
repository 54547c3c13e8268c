-- `reference::rule::signer_of` meets its contract.
-- Assumes nothing.
use mathlib.Core.Path.{sym, ◌∙◌}
use Rattle.reference.proofs.Steps.{signer_any, signer_one, signer_digest}
use borrow.Author.Rules.{rules}
use Rattle.reference.proofs.rule.signer_of.Statement.{statement}
use Rattle.reference.proofs.rule.signer_of.Tie as tie

returns-then-is : tie.Need-returns-then-is
returns-then-is c = (tt, signer_any _ (sym c.is.ensures ∙ c.if-is.true))

returns : tie.Need-returns
returns c =
    let a = c.before.before.before.before in
    let e = sym c.is.ensures ∙ c.if-is.false in
    (record { inside = a.requires.0; digest = signer_digest _ a.args.a a.requires.2 e }, signer_one _ e)

pub signer_of_spec : {M : Type 1} → statement M
signer_of_spec =
    tie.close (tie.spec (λ c κs. search rules) returns-then-is returns)
