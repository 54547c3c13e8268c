-- `reference_aliases::is_reserved` meets its contract: the words are tried one after the other.
-- Assumes nothing.
use Rattle.reference_aliases.proofs.Named.{or_taken, or_left}
use Rattle.reference_aliases.specs.Aliases.{is_reserved}
use borrow.Author.Rules.{rules}
use Rattle.reference_aliases.proofs.is_reserved.Statement.{statement}
use Rattle.reference_aliases.proofs.is_reserved.Tie as tie

returns-then-is : tie.Need-returns-then-is
unfolding is_reserved
returns-then-is c = or_taken _ _ _ c.is.ensures c.if-is.true

returns-then-is-2 : tie.Need-returns-then-is-2
unfolding is_reserved
returns-then-is-2 c =
    let e = c.before.before.before in
    or_left _ _ _ _ e.is.ensures e.if-is.false (or_taken _ _ _ c.is-else-is.ensures c.if-is-2.true)

returns-else-is-2 : tie.Need-returns-else-is-2
unfolding is_reserved
returns-else-is-2 c =
    let f = c.before.before in
    let e = f.before.before.before in
    or_left _ _ _ _ e.is.ensures e.if-is.false (or_left _ _ _ _ f.is-else-is.ensures f.if-is-2.false c.is-else-is-2.ensures)

pub is_reserved_spec : {M : Type 1} → statement M
is_reserved_spec =
    tie.close (tie.spec (λ c κs. search rules) (λ c κs. search rules) (λ c κs. search rules) returns-then-is returns-then-is-2 returns-else-is-2)
