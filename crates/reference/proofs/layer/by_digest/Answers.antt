-- The digest of a layer is the second part, which is the whole content from its position on.
-- Assumes nothing.
use Rattle.std.specs.Prelude.{Option}
use mathlib.Core.Path.{ap, sym, ◌∙◌}
use Rattle.text_strings.specs.InString.{content_from}
use Rattle.reference_digests.specs.Digests.{is_digest}
use Rattle.reference_digests.specs.declared.algorithm.Algorithm.{Algorithm}
use Rattle.reference_digests.proofs.Forms.{digest_counted}
use Rattle.reference.specs.References.{digest_layer}
use Rattle.reference_aliases.proofs.Named.{whole}
use Rattle.reference.proofs.Steps.{layer_by_digest, digest_good, digest_bad, digest_unknown}
use Rattle.reference.proofs.layer.by_digest.Goals as goal

pub returns-in_err-algorithm : goal.returns-in_err-algorithm
returns-in_err-algorithm c =
    rw c.from_residual.ensures (layer_by_digest _ _ _ _ c.requires.0 _ c.requires.1 c.named.ensures
    ∙ ap (λ (k : Option Algorithm). digest_layer k (content_from c.args.s.now c.args.first.next)) c.in_err-algorithm.was
    ∙ digest_unknown _)

pub returns-then-not-is_digest : goal.returns-then-not-is_digest
returns-then-not-is_digest c =
    let w = whole _ _ _ c.requires.0.second c.requires.1 in
    layer_by_digest _ _ _ _ c.requires.0 _ c.requires.1 c.named.ensures
    ∙ ap (λ (k : Option Algorithm). digest_layer k (content_from c.args.s.now c.args.first.next)) c.in_ok-algorithm.was
    ∙ digest_bad _ _ (sym (c.is_digest.ensures ∙ digest_counted _ _ c.args.second c.requires.0.second.counts ∙ ap (is_digest _) w) ∙ c.if-not-is_digest.true)

pub returns : goal.returns
returns c =
    let w = whole _ _ _ c.requires.0.second c.requires.1 in
    let d = sym (c.is_digest.ensures ∙ digest_counted _ _ c.args.second c.requires.0.second.counts) ∙ c.if-not-is_digest.false in (
      record { inside = c.requires.0.first.inside; digest = d },
      layer_by_digest _ _ _ _ c.requires.0 _ c.requires.1 c.named.ensures
          ∙ ap (λ (k : Option Algorithm). digest_layer k (content_from c.args.s.now c.args.first.next)) c.in_ok-algorithm.was
          ∙ digest_good _ _ _ w d,
    )
