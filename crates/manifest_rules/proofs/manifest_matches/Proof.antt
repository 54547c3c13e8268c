-- `manifest_rules::manifest_matches` meets its contract: the digest is compared with the bytes, the alias was looked up before.
-- Assumes nothing.
use mathlib.Core.Path.{subst, ◌∙◌}
use borrow.Author.Rules.{rules}
use Rattle.reference.specs.Matches.{manifest_matches}
use Rattle.reference.specs.Readings.{ManifestAt}
use Rattle.manifest.proofs.Accepting.{alias_named}
use Rattle.manifest_rules.proofs.manifest_matches.Statement.{statement}
use Rattle.manifest_rules.proofs.manifest_matches.Tie as tie

is-requires : tie.Need-is-requires
is-requires c κs =
    let a = c.before.before.before in
    subst (ManifestAt a.args.s.now a.args.a) c.in-Digest.is a.requires

returns-in-Any : tie.Need-returns-in-Any
unfolding manifest_matches
returns-in-Any c = λ g names e. rw c.in-Any.is

returns-in-Digest : tie.Need-returns-in-Digest
unfolding manifest_matches
returns-in-Digest c = λ g names e. c.is.ensures ∙ rw c.in-Digest.is

returns-in-Alias : tie.Need-returns-in-Alias
unfolding manifest_matches
returns-in-Alias c = λ g names e. rw c.in-Alias.is ((rw c.in-Alias.is at e) ∙ alias_named _ g _ names)

pub manifest_matches_spec : {M : Type 1} → statement M
manifest_matches_spec =
    tie.close (tie.spec (λ c. search rules) (λ c. search rules) is-requires (λ c. search rules) returns-in-Any returns-in-Digest returns-in-Alias)
