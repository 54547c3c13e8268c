-- The parts of the rule are compared one after the other. Assumes nothing.
use mathlib.Core.Path.{sym, ap, ◌∙◌}
use Rattle.laws.specs.Any.{any_of}
use Rattle.reference_digests.proofs.Bytes.{same_bytes, other_bytes}
use Rattle.reference.specs.References.{Rule}
use Rattle.manifest_view.proofs.Matched.{bad_rule, other_algorithm, other_signer, by_manifest}
use Rattle.manifest.specs.Asks.{asks_for}
use Rattle.manifest.proofs.Accepting.{read_bad, read_parts, read_accepts}
use Rattle.manifest_rules.proofs.matches.Goals as goal

pub returns-in_default : goal.returns-in_default
returns-in_default c = λ y names k e₀. bad_rule _ _ _ _ _ (read_bad _ _ y k c.in_default.is)

pub returns-then-ne : goal.returns-then-ne
returns-then-ne c = λ y names k e₀.
    other_algorithm _ _ _ _ _ _ _ _ (read_accepts _ _ y k _ c.in-Some.is) (other_bytes _ _ (sym c.ne.ensures ∙ c.if-ne.true))

pub signer_matches-requires : goal.signer_matches-requires
signer_matches-requires c = (read_parts _ _ _ c.requires.read _ c.in-Some.is).0

pub returns-then-not-signer_matches : goal.returns-then-not-signer_matches
returns-then-not-signer_matches c = λ y names k e₀.
    other_signer _ _ _ _ _ _ _ _ (read_accepts _ _ y k _ c.in-Some.is) (same_bytes _ _ (sym c.ne.ensures ∙ c.if-ne.false))
    (sym c.signer_matches.ensures ∙ c.if-not-signer_matches.true)

pub manifest_matches-requires : goal.manifest_matches-requires
manifest_matches-requires c = (read_parts _ _ _ c.requires.read _ c.in-Some.is).1

pub returns : goal.returns
returns c = λ y names k e₀.
    let h = read_accepts _ _ y k _ c.in-Some.is in
    by_manifest _ _ _ _ _ _ _ _ h (same_bytes _ _ (sym c.ne.ensures ∙ c.if-ne.false))
    (sym c.signer_matches.ensures ∙ c.if-not-signer_matches.false) _
    (c.manifest_matches.ensures _ names (e₀ ∙ ap (λ (q : Rule). any_of (asks_for q) names) h))
