-- `test_bench::text_number_of` meets its contract: the number of what checking answers. Assumes nothing.
use borrow.Author.Rules.{rules}
use mathlib.Core.Path.{sym, ap, ◌∙◌}
use Rattle.text.specs.Answer.{number_of}
use Rattle.test_bench.proofs.text_number_of.Statement.{statement}
use Rattle.test_bench.proofs.text_number_of.Tie as tie

returns-in-Err : tie.Need-returns-in-Err
returns-in-Err c =
    let k = c.before in
    c.number.ensures ∙ ap number_of (sym k.in-Err.is ∙ k.check.ensures)

returns-in-Ok : tie.Need-returns-in-Ok
returns-in-Ok c = ap number_of (sym c.in-Ok.is ∙ c.check.ensures)

pub text_number_of_spec : {M : Type 1} → statement M
text_number_of_spec =
    tie.close (tie.spec (λ c κs. search rules) (λ c. search rules) (λ c κs. search rules) (λ c. search rules) returns-in-Err returns-in-Ok)
