-- The signer is the third part, and the alias the fourth, which is the whole content from its position on.
-- Assumes nothing.
use mathlib.Core.Path.{ap, sym, ◌∙◌}
use Rattle.reference_digests.proofs.Forms.{digest_counted}
use Rattle.reference_aliases.specs.Aliases.{is_alias}
use Rattle.reference_aliases.proofs.Named.{whole}
use Rattle.reference.proofs.Steps.{by_no_word, by_unknown, by_known, alias_good, alias_no_signer, alias_no_name}
use Rattle.reference.proofs.layer.by_alias.Goals as goal

pub returns-then-not-is : goal.returns-then-not-is
returns-then-not-is c =
    let d = c.requires in
    by_no_word _ _ _ _ d.0 _ d.1 _ d.2 d.3 (sym c.is.ensures ∙ c.if-not-is.true)

pub returns-in_err-algorithm : goal.returns-in_err-algorithm
returns-in_err-algorithm c =
    let d = c.requires in
    rw c.from_residual.ensures (by_unknown _ _ _ _ d.0 _ d.1 _ d.2 _ d.3 c.named.ensures c.in_err-algorithm.was)

pub returns-then-not-is_digest : goal.returns-then-not-is_digest
returns-then-not-is_digest c =
    let d = c.requires in
    by_known _ _ _ _ d.0 _ d.1 _ d.2 _ _ d.3 c.named.ensures c.in_ok-algorithm.was (sym c.is.ensures ∙ c.if-not-is.false)
    ∙ alias_no_signer _ _ _ (sym (c.is_digest.ensures ∙ digest_counted _ _ c.args.third d.1.second.counts) ∙ c.if-not-is_digest.true)

pub returns-then-not-is_alias_part : goal.returns-then-not-is_alias_part
returns-then-not-is_alias_part c =
    let d = c.requires in
    by_known _ _ _ _ d.0 _ d.1 _ d.2 _ _ d.3 c.named.ensures c.in_ok-algorithm.was (sym c.is.ensures ∙ c.if-not-is.false)
    ∙ alias_no_name _ _ _ (sym (c.is_digest.ensures ∙ digest_counted _ _ c.args.third d.1.second.counts) ∙ c.if-not-is_digest.false)
    (sym (c.is_alias_part.ensures ∙ ap is_alias (whole _ _ _ d.2.second d.3)) ∙ c.if-not-is_alias_part.true)

pub returns : goal.returns
returns c =
    let d = c.requires in
    let x = sym (c.is_digest.ensures ∙ digest_counted _ _ c.args.third d.1.second.counts) ∙ c.if-not-is_digest.false in (
      record { inside = d.0.second.inside; digest = x },
      d.1.second.inside,
      by_known _ _ _ _ d.0 _ d.1 _ d.2 _ _ d.3 c.named.ensures c.in_ok-algorithm.was (sym c.is.ensures ∙ c.if-not-is.false)
          ∙ alias_good _ _ _ x (sym (c.is_alias_part.ensures ∙ ap is_alias (whole _ _ _ d.2.second d.3)) ∙ c.if-not-is_alias_part.false),
    )
