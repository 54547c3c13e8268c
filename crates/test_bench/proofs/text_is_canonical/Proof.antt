-- `test_bench::text_is_canonical` meets its contract: a truth value as 1 or 0. Assumes nothing.
use mathlib.Core.Path.{sym, ap, ◌∙◌}
use borrow.Author.Rules.{rules}
use Rattle.test_bench.specs.Bit.{bit}
use Rattle.test_bench.proofs.text_is_canonical.Statement.{statement}
use Rattle.test_bench.proofs.text_is_canonical.Tie as tie

returns-then-is_canonical : tie.Need-returns-then-is_canonical
returns-then-is_canonical c = ap bit (sym c.if-is_canonical.true ∙ c.is_canonical.ensures)

returns : tie.Need-returns
returns c = ap bit (sym c.if-is_canonical.false ∙ c.is_canonical.ensures)

pub text_is_canonical_spec : {M : Type 1} → statement M
text_is_canonical_spec =
    tie.close (tie.spec (λ c κs. search rules) returns-then-is_canonical returns)
