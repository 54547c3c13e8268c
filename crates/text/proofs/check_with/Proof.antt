-- `text::check_with` meets its contract. Assumes nothing.
use borrow.Author.Rules.{rules}
use mathlib.Core.Path.{sym, ap, ◌∙◌}
use Rattle.text.specs.Answer.{by_verdict}
use Rattle.text.proofs.Checks.{too_long, told_by_verdict}
use Rattle.text.proofs.Keys.{refused_keys}
use Rattle.text.proofs.check_with.Statement.{statement}
use Rattle.text.proofs.check_with.Tie as tie

returns-then-text-gt-MOST_BYTES : tie.Need-returns-then-text-gt-MOST_BYTES
returns-then-text-gt-MOST_BYTES c = refused_keys _ _ _ _ _ c.refusal.ensures (too_long _ c.if-text-gt-MOST_BYTES.true)

returns-in-Ok : tie.Need-returns-in-Ok
unfolding by_verdict
returns-in-Ok c =
    let s = c.args.text.now in
    let r = c.check_json.ensures in
    let u = c.check in (
      told_by_verdict s u.result _ c.if-text-gt-MOST_BYTES.false u.ensures (r.0
          ∙ sym (ap (by_verdict s) c.in-Ok.is)),
      r.1,
    )

returns-in-Err : tie.Need-returns-in-Err
unfolding by_verdict
returns-in-Err c =
    let s = c.args.text.now in
    let u = c.check in
    refused_keys s _ _ _ _ c.refusal-in-Err.ensures (told_by_verdict s u.result _ c.if-text-gt-MOST_BYTES.false u.ensures
    (sym (ap (by_verdict s) c.in-Err.is)))

pub check_with_spec : {M : Type 1} → statement M
check_with_spec =
    tie.close (tie.spec (λ c κs. search rules) returns-then-text-gt-MOST_BYTES (λ c κs. search rules) (λ c. search rules) (λ c κs. search rules) (λ c. search rules)
    (λ c κs. search rules) (λ c. search rules) (λ c. search rules) returns-in-Ok returns-in-Err)
