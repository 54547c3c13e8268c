-- `text_canonical::write_boolean` meets its contract. Assumes nothing.
use borrow.Author.Rules.{rules}
use mathlib.Core.Path.{ap, ◌∙◌}
use mathlib.Core.Bool.{Bool}
use native.Mathlib.Omega.{arith}
use lib.ListN.{length}
use Rattle.text_content.specs.Value.{boolean}
use Rattle.text_content.specs.Canonical.{canonical}
use Rattle.text_canonical.proofs.Scalars.{true_form, false_form}
use Rattle.text_canonical.proofs.write_boolean.Statement.{statement}
use Rattle.text_canonical.proofs.write_boolean.Tie as tie

copy-requires : tie.Need-copy-requires
copy-requires c κs =
    let b = c.before.before in
    let e = ap (λ (x : Bool). length (canonical (boolean x))) b.if-b.true ∙ ap length true_form in
    omega (arith, b.requires)

copy-requires-else-b : tie.Need-copy-requires-else-b
copy-requires-else-b c κs =
    let b = c.before.before in
    let e = ap (λ (x : Bool). length (canonical (boolean x))) b.if-b.false ∙ ap length false_form in
    omega (arith, b.requires)

returns-then-b : tie.Need-returns-then-b
returns-then-b c =
    let d = c.before.before in
    rw (d.if-b.true, true_form) d.copy.ensures

returns-else-b : tie.Need-returns-else-b
returns-else-b c =
    let d = c.before.before in
    rw (d.if-b.false, false_form) d.copy-else-b.ensures

pub write_boolean_spec : {M : Type 1} → statement M
write_boolean_spec =
    tie.close (tie.spec copy-requires copy-requires-else-b (λ c. search rules) returns-then-b (λ c. search rules) returns-else-b)
