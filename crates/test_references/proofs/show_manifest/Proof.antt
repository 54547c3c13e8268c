-- `test_references::show_manifest` meets its contract.
-- Assumes nothing.
use mathlib.Core.Path.{subst}
use borrow.Author.Rules.{rules}
use Rattle.reference.specs.Readings.{ManifestAt}
use Rattle.test_references.proofs.show_manifest.Statement.{statement}
use Rattle.test_references.proofs.show_manifest.Tie as tie

show_digest_at-requires : tie.Need-show_digest_at-requires
show_digest_at-requires c κs =
    let a = c.before.before.before in
    subst (ManifestAt a.args.s.now a.args.a) c.in-Digest.is a.requires

pub show_manifest_spec : {M : Type 1} → statement M
show_manifest_spec =
    tie.close (tie.spec (λ c. search rules) (λ c κs. search rules) (λ c. search rules) show_digest_at-requires (λ c. search rules)
    (λ c κs. search rules) (λ c. search rules) (λ c. search rules) (λ c. search rules))
