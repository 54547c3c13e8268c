-- `reference::rule::manifest_of` meets its contract: the last part is the whole content.
-- Assumes nothing.
use mathlib.Core.Path.{ap, sym, ◌∙◌}
use mathlib.Core.List.{List}
use Prim.Native.Nat.{ℕ}
use Rattle.laws.specs.Order.{same}
use Rattle.reference_digests.specs.Digests.{is_digest, digest_of}
use Rattle.reference_digests.proofs.Forms.{digest_counted}
use Rattle.reference_aliases.specs.Aliases.{star}
use Rattle.reference.specs.References.{manifest}
use Rattle.reference_aliases.proofs.Named.{whole}
use Rattle.reference.proofs.Steps.{manifest_any, manifest_one, manifest_alias}
use borrow.Author.Rules.{rules}
use Rattle.reference.proofs.rule.manifest_of.Statement.{statement}
use Rattle.reference.proofs.rule.manifest_of.Tie as tie

returns-then-is : tie.Need-returns-then-is
returns-then-is c =
    let a = c.before.before.before.before in
    let w = whole _ _ _ a.requires.1 a.requires.2 in
    (tt, manifest_any _ a.args.a (sym (c.is.ensures ∙ ap (λ (x : List ℕ). same x star) w) ∙ c.if-is.true))

returns-then-is_digest : tie.Need-returns-then-is_digest
returns-then-is_digest c =
    let e = c.before.before in
    let a = e.before.before.before.before in
    let d = sym (c.is_digest.ensures ∙ digest_counted a.args.a _ a.args.p a.requires.1.counts) ∙ c.if-is_digest.true in
    let w = whole _ _ _ a.requires.1 a.requires.2 in (
      record { inside = a.requires.0; digest = d },
      ap (λ (x : List ℕ). manifest (digest_of x)) w
          ∙ manifest_one _ a.args.a
          (sym (e.is.ensures ∙ ap (λ (x : List ℕ). same x star) w) ∙ e.if-is.false)
          (sym (ap (is_digest a.args.a) w) ∙ d),
    )

returns : tie.Need-returns
returns c =
    let e = c.before.before in
    let a = e.before.before.before.before in
    let w = whole _ _ _ a.requires.1 a.requires.2 in (
      a.requires.0,
      manifest_alias _ a.args.a
          (sym (e.is.ensures ∙ ap (λ (x : List ℕ). same x star) w) ∙ e.if-is.false)
          (sym (c.is_digest.ensures ∙ digest_counted a.args.a _ a.args.p a.requires.1.counts ∙ ap (is_digest a.args.a) w) ∙ c.if-is_digest.false),
    )

pub manifest_of_spec : {M : Type 1} → statement M
manifest_of_spec =
    tie.close (tie.spec (λ c κs. search rules) returns-then-is (λ c κs. search rules) returns-then-is_digest returns)
