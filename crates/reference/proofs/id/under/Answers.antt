-- Both digests are counted as the parts are.
-- Assumes nothing.
use mathlib.Core.Path.{refl, sym, ◌∙◌}
use Rattle.reference_digests.proofs.Forms.{digest_counted}
use Rattle.reference.proofs.Steps.{id_no_signer, id_no_manifest}
use Rattle.reference.proofs.id.under.Goals as goal

pub returns-then-not-is_digest : goal.returns-then-not-is_digest
returns-then-not-is_digest c = λ x y k l.
    id_no_signer c.args.a _ _ (sym (c.is_digest.ensures ∙ digest_counted c.args.a x c.args.signer k) ∙ c.if-not-is_digest.true)

pub returns-then-not-is_digest-2 : goal.returns-then-not-is_digest-2
returns-then-not-is_digest-2 c = λ x y k l.
    id_no_manifest c.args.a _ _ (sym (c.is_digest.ensures ∙ digest_counted c.args.a x c.args.signer k) ∙ c.if-not-is_digest.false)
    (sym (c.is_digest-2.ensures ∙ digest_counted c.args.a y c.args.manifest l) ∙ c.if-not-is_digest-2.true)

pub returns : goal.returns
returns c = λ x y k l. (
  refl,
  refl,
  refl,
  sym (c.is_digest.ensures ∙ digest_counted c.args.a x c.args.signer k) ∙ c.if-not-is_digest.false,
  sym (c.is_digest-2.ensures ∙ digest_counted c.args.a y c.args.manifest l) ∙ c.if-not-is_digest-2.false,
)
