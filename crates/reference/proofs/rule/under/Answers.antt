-- SIGNER and MANIFEST are tested and then read, MANIFEST as the whole content from its position on.
-- Assumes nothing.
use mathlib.Core.Path.{ap, sym, ◌∙◌}
use Rattle.reference.specs.References.{is_manifest}
use Rattle.reference_aliases.proofs.Named.{whole}
use Rattle.reference.proofs.Steps.{rule_no_signer, rule_no_manifest, rule_accepts}
use Rattle.reference.proofs.rule.under.Goals as goal

pub returns-then-not-is_signer : goal.returns-then-not-is_signer
returns-then-not-is_signer c = rule_no_signer _ _ _ (sym c.is_signer.ensures ∙ c.if-not-is_signer.true)

pub returns-then-not-is_manifest : goal.returns-then-not-is_manifest
returns-then-not-is_manifest c =
    let w = whole _ _ _ c.requires.0.second c.requires.1 in
    rule_no_manifest _ _ _ (sym c.is_signer.ensures ∙ c.if-not-is_signer.false)
    (sym (c.is_manifest.ensures ∙ ap (is_manifest c.args.a) w) ∙ c.if-not-is_manifest.true)

pub signer_of-requires : goal.signer_of-requires
signer_of-requires c = (c.requires.0.here, c.requires.0.first, sym c.is_signer.ensures ∙ c.if-not-is_signer.false)

pub returns : goal.returns
returns c =
    let w = whole _ _ _ c.requires.0.second c.requires.1 in (
      c.signer_of.ensures.0,
      c.manifest_of.ensures.0,
      rule_accepts _ _ _ (sym c.is_signer.ensures ∙ c.if-not-is_signer.false)
          (sym (c.is_manifest.ensures ∙ ap (is_manifest c.args.a) w) ∙ c.if-not-is_manifest.false)
          ∙ rw (← c.signer_of.ensures.1, ← c.manifest_of.ensures.1),
    )
