-- `reference_parts::part::is` meets its contract: a part of the name's length is the name where the content begins with it.
-- Assumes nothing.
use mathlib.Core.Path.{sym, ◌∙◌}
use Rattle.reference_parts.proofs.Counting.{as_begins, other_length}
use Rattle.reference_parts.proofs.part.is.Statement.{statement}
use Rattle.reference_parts.proofs.part.is.Tie as tie

returns-then-len-name : tie.Need-returns-then-len-name
returns-then-len-name c = other_length _ _ (λ e. c.if-len-name.true (c.requires.1 ∙ e))

begins-requires : tie.Need-begins-requires
begins-requires c κs = c.requires.0

returns : tie.Need-returns
returns c = c.begins.ensures ∙ as_begins _ _ (sym c.if-len-name.false ∙ c.requires.1)

pub is_spec : {M : Type 1} → statement M
is_spec =
    tie.close (tie.spec returns-then-len-name begins-requires returns)
