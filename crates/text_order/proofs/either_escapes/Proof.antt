use borrow.Author.Tests.{eq-eqb, ne_eqb}
use Rattle.text_order.proofs.either_escapes.Statement.{statement}
use Rattle.text_order.proofs.either_escapes.Tie as tie

returns-then-x-eq92 : tie.Need-returns-then-x-eq92
returns-then-x-eq92 c = rw (eq-eqb _ _ c.if-x-eq92.true)

returns-else-x-eq92 : tie.Need-returns-else-x-eq92
returns-else-x-eq92 c = rw (ne_eqb _ _ c.if-x-eq92.false)

pub either_escapes_spec : {M : Type 1} → statement M
either_escapes_spec =
    tie.close (tie.spec returns-then-x-eq92 returns-else-x-eq92)
