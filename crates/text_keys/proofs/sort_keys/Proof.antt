-- `text_keys::sort_keys` meets its contract: sorting leaves keys in rising order as they are. Assumes nothing.
use borrow.Author.Rules.{rules}
use borrow.Author.Tests.{not-false}
use mathlib.Core.Path.{sym, ◌∙◌}
use Rattle.text_keys.proofs.Orders.{rising_sorted}
use Rattle.text_keys.proofs.sort_keys.Statement.{statement}
use Rattle.text_keys.proofs.sort_keys.Tie as tie

returns-else-not-found : tie.Need-returns-else-not-found
returns-else-not-found c = sym (rising_sorted _ _ (sym c.check_order-found.ensures.0 ∙ not-false _ c.if-not-found.false))

pub sort_keys_spec : {M : Type 1} → statement M
sort_keys_spec =
    tie.close (tie.spec (λ c κs. search rules) (λ c κs. search rules) (λ c. search rules) (λ c. search rules) (λ c. search rules) (λ c. search rules)
    returns-else-not-found)
