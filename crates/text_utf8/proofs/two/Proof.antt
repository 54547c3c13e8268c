-- `text_utf8::two` meets its contract, by what `byte_in` ensures.
-- Assumes nothing.
use borrow.Author.Rules.{rules}
use mathlib.Core.Path.{ap, sym, ◌∙◌}
use mathlib.Core.Bool.{cond}
use Rattle.text_utf8.proofs.two.Statement.{statement}
use Rattle.text_utf8.proofs.two.Tie as tie

returns-then-byte_in : tie.Need-returns-then-byte_in
returns-then-byte_in c = ap (λ x. cond x 2 0) (sym c.if-byte_in.true ∙ c.byte_in.ensures)

returns : tie.Need-returns
returns c = ap (λ x. cond x 2 0) (sym c.if-byte_in.false ∙ c.byte_in.ensures)

pub two_spec : {M : Type 1} → statement M
two_spec =
    tie.close (tie.spec (λ c κs. search rules) returns-then-byte_in returns)
