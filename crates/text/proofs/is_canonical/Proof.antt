-- `text::is_canonical` meets its contract: the flag of a text that is taken. Assumes nothing.
use borrow.Author.Rules.{rules}
use mathlib.Core.Path.{sym, ◌∙◌}
use Rattle.text.proofs.Outcome.{accepted_flag, refused_flag}
use Rattle.text.proofs.is_canonical.Statement.{statement}
use Rattle.text.proofs.is_canonical.Tie as tie

returns-in-Ok : tie.Need-returns-in-Ok
returns-in-Ok c = accepted_flag _ _ _ (sym c.check.ensures ∙ c.in-Ok.is)

returns-in-Err : tie.Need-returns-in-Err
returns-in-Err c = sym (refused_flag _ _ (sym c.check.ensures ∙ c.in-Err.is))

pub is_canonical_spec : {M : Type 1} → statement M
is_canonical_spec =
    tie.close (tie.spec (λ c κs. search rules) (λ c. search rules) (λ c. search rules) returns-in-Ok returns-in-Err)
