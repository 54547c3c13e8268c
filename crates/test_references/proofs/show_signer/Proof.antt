-- `test_references::show_signer` meets its contract.
-- Assumes nothing.
use mathlib.Core.Path.{subst}
use borrow.Author.Rules.{rules}
use Rattle.reference.specs.Readings.{SignerAt}
use Rattle.test_references.proofs.show_signer.Statement.{statement}
use Rattle.test_references.proofs.show_signer.Tie as tie

show_digest_at-requires : tie.Need-show_digest_at-requires
show_digest_at-requires c κs =
    let a = c.before.before.before in
    subst (SignerAt a.args.s.now a.args.a) c.in-Digest.is a.requires

pub show_signer_spec : {M : Type 1} → statement M
show_signer_spec =
    tie.close (tie.spec (λ c. search rules) (λ c κs. search rules) (λ c. search rules) show_digest_at-requires (λ c. search rules) (λ c. search rules))
