-- `reference_aliases::is_alias` meets its contract.
-- Assumes nothing.
use mathlib.Core.Path.{ap, sym, ◌∙◌}
use Rattle.reference_parts.proofs.Parts.{is_not_last}
use Rattle.reference_aliases.specs.Aliases.{is_alias}
use Rattle.reference_aliases.proofs.Named.{divided_alias, whole}
use borrow.Author.Rules.{rules}
use Rattle.reference_aliases.proofs.is_alias.Statement.{statement}
use Rattle.reference_aliases.proofs.is_alias.Tie as tie

returns-then-p : tie.Need-returns-then-p
returns-then-p c =
    let d = c.before in
    c.is_alias_part.ensures ∙ ap is_alias (whole _ _ _ d.read-p.ensures d.if-p.true)

returns : tie.Need-returns
returns c = sym (divided_alias _ (is_not_last _ _ c.read-p.ensures.counts c.if-p.false))

pub is_alias_spec : {M : Type 1} → statement M
is_alias_spec =
    tie.close (tie.spec (λ c κs. search rules) (λ c κs. search rules) returns-then-p returns)
