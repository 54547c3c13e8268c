-- `reference_aliases::is_alias_part` meets its contract.
-- Assumes nothing.
use mathlib.Core.Path.{ap, sym, ◌∙◌}
use mathlib.Core.Bool.{not}
use Rattle.reference_aliases.proofs.Named.{alias_length, no_alias_length}
use borrow.Author.Rules.{rules}
use Rattle.reference_aliases.proofs.is_alias_part.Statement.{statement}
use Rattle.reference_aliases.proofs.is_alias_part.Tie as tie

returns-then-is_name_length : tie.Need-returns-then-is_name_length
returns-then-is_name_length c =
    let d = c.before in
    let a = d.before.before.before in
    ap not c.is_reserved.ensures ∙ alias_length _ a.args.p a.requires.1.counts (sym d.is_name_length.ensures ∙ d.if-is_name_length.true)

returns : tie.Need-returns
returns c =
    let a = c.before.before.before in
    sym (no_alias_length _ a.args.p a.requires.1.counts (sym c.is_name_length.ensures ∙ c.if-is_name_length.false))

pub is_alias_part_spec : {M : Type 1} → statement M
is_alias_part_spec =
    tie.close (tie.spec (λ c κs. search rules) (λ c κs. search rules) returns-then-is_name_length returns)
