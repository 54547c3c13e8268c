-- `reference::rule::is_manifest` meets its contract.
-- Assumes nothing.
use mathlib.Core.Path.{◌∙◌}
use Rattle.reference_digests.proofs.Forms.{digest_counted}
use Rattle.reference.specs.References.{is_manifest}
use Rattle.reference_aliases.proofs.Named.{or_taken, or_left}
use borrow.Author.Rules.{rules}
use Rattle.reference.proofs.rule.is_manifest.Statement.{statement}
use Rattle.reference.proofs.rule.is_manifest.Tie as tie

returns-then-is : tie.Need-returns-then-is
unfolding is_manifest
returns-then-is c = or_taken _ _ _ c.is.ensures c.if-is.true

returns-then-is_digest : tie.Need-returns-then-is_digest
unfolding is_manifest
returns-then-is_digest c =
    let e = c.before.before in
    let a = e.before.before.before.before in
    or_left _ _ _ _ e.is.ensures e.if-is.false
    (or_taken _ _ _ (c.is_digest.ensures ∙ digest_counted a.args.a _ a.args.p a.requires.1.counts) c.if-is_digest.true)

returns-else-is_digest : tie.Need-returns-else-is_digest
unfolding is_manifest
returns-else-is_digest c =
    let f = c.before in
    let e = f.before.before in
    let a = e.before.before.before.before in
    or_left _ _ _ _ e.is.ensures e.if-is.false
    (or_left _ _ _ _ (f.is_digest.ensures ∙ digest_counted a.args.a _ a.args.p a.requires.1.counts) f.if-is_digest.false
    c.is_alias_part.ensures)

pub is_manifest_spec : {M : Type 1} → statement M
is_manifest_spec =
    tie.close (tie.spec (λ c κs. search rules) (λ c κs. search rules) (λ c κs. search rules) returns-then-is returns-then-is_digest
    returns-else-is_digest)
