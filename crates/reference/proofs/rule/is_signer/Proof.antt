-- `reference::rule::is_signer` meets its contract.
-- Assumes nothing.
use mathlib.Core.Path.{◌∙◌}
use Rattle.reference_digests.proofs.Forms.{digest_counted}
use Rattle.reference.specs.References.{is_signer}
use Rattle.reference_aliases.proofs.Named.{or_taken, or_left}
use borrow.Author.Rules.{rules}
use Rattle.reference.proofs.rule.is_signer.Statement.{statement}
use Rattle.reference.proofs.rule.is_signer.Tie as tie

returns-then-is : tie.Need-returns-then-is
unfolding is_signer
returns-then-is c = or_taken _ _ _ c.is.ensures c.if-is.true

returns-else-is : tie.Need-returns-else-is
unfolding is_signer
returns-else-is c =
    let e = c.before in
    let a = e.before.before.before.before in
    or_left _ _ _ _ e.is.ensures e.if-is.false (c.is_digest.ensures ∙ digest_counted a.args.a _ a.args.p a.requires.1.counts)

pub is_signer_spec : {M : Type 1} → statement M
is_signer_spec =
    tie.close (tie.spec (λ c κs. search rules) (λ c κs. search rules) returns-then-is returns-else-is)
