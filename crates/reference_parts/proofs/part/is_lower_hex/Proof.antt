-- `reference_parts::part::is_lower_hex` meets its contract: the first range that holds the byte decides.
-- Assumes nothing.
use borrow.Author.Rules.{rules}
use Rattle.reference_parts.specs.Hex.{is_lower_hex}
use Rattle.reference_parts.proofs.part.is_lower_hex.Statement.{statement}
use Rattle.reference_parts.proofs.part.is_lower_hex.Tie as tie

returns-then-between : tie.Need-returns-then-between
unfolding is_lower_hex
returns-then-between c = rw (← c.between.ensures, c.if-between.true)

returns-else-between : tie.Need-returns-else-between
unfolding is_lower_hex
returns-else-between c = rw (← c.between-else-between.ensures, ← c.between.ensures, c.if-between.false)

pub is_lower_hex_spec : {M : Type 1} → statement M
is_lower_hex_spec =
    tie.close (tie.spec (λ c κs. search rules) (λ c κs. search rules) returns-then-between returns-else-between)
