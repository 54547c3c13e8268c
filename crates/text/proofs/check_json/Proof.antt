-- `text::check_json` meets its contract. Assumes nothing.
use borrow.Author.Rules.{rules}
use mathlib.Core.Path.{ap, ◌∙◌}
use mathlib.Core.Bool.{Bool}
use native.Mathlib.Omega.{arith}
use lib.ListN.{length}
use Rattle.text_json.specs.Read.{read_text}
use Rattle.text_scan.proofs.Results.{scans_value, scans_stuck}
use Rattle.text.specs.Answer.{by_faults}
use Rattle.text.proofs.Checks.{stuck_at, told_by_tree}
use Rattle.text.proofs.Keys.{refused_keys, own_keys, root_keys}
use Rattle.text.proofs.check_json.Statement.{statement}
use Rattle.text.proofs.check_json.Tie as tie

text-requires : tie.Need-text-requires
text-requires c κs =
    let b = c.requires in
    record { within = omega arith; short = b.0; enough = omega (arith, b.0, b.1.enough); sorting = b.1.sorting }

returns-in-Err : tie.Need-returns-in-Err
returns-in-Err c =
    let s = c.args.text.now in
    let r = rw c.in-Err.is at c.text.ensures in
    refused_keys s _ _ _ _ c.refusal.ensures (stuck_at s (read_text 8 s) _ (scans_stuck s (read_text 8 s) _ r.0))

returns : tie.Need-returns
returns c =
    let s = c.args.text.now in
    let f = c.in-Ok.f in
    let r = rw c.in-Ok.is at c.text.ensures in
    let v = scans_value s (read_text 8 s) f r.0 in
    let flag = c.is_form-canonical.ensures v.tree v.sum in
    let e = c.by_faults-answer.ensures v.tree v.sum ∙ ap (λ (b : Bool). by_faults (length s) b v.tree) flag ∙ told_by_tree s f v in
    let k = root_keys s _ c.by_faults-answer.result f.count _ c.with_count.ensures (own_keys s f v) r.1 in
    (k.0 ∙ e, k.1)

pub check_json_spec : {M : Type 1} → statement M
check_json_spec =
    tie.close (tie.spec text-requires (λ c. search rules) (λ c. search rules) (λ c κs. search rules) (λ c. search rules) (λ c. search rules) returns-in-Err
    (λ c κs. search rules) (λ c κs. search rules) (λ c κs. search rules) (λ c. search rules) (λ c. search rules) returns)
