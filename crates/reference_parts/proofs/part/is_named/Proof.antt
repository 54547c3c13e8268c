-- `reference_parts::part::is_named` meets its contract. Assumes nothing.
use Rattle.reference_parts.proofs.part.is_named.Statement.{statement}
use Rattle.reference_parts.proofs.part.is_named.Tie as tie

is_plain-requires : tie.Need-is_plain-requires
is_plain-requires c κs = rw c.if-plain.true at c.requires

returns-then-plain : tie.Need-returns-then-plain
returns-then-plain c = rw c.if-plain.true c.is_plain.ensures

is-requires : tie.Need-is-requires
is-requires c κs = rw c.if-plain.false at c.requires

returns : tie.Need-returns
returns c = rw c.if-plain.false c.is.ensures

pub is_named_spec : {M : Type 1} → statement M
is_named_spec = tie.close (tie.spec is_plain-requires returns-then-plain is-requires returns)
