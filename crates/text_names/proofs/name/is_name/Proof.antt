-- `text_names::name::is_name` meets its contract: the whole content is compared. Assumes nothing.
use borrow.Author.Rules.{rules}
use Rattle.text_names.specs.Named.{holds_name}
use Rattle.text_names.proofs.name.is_name.Statement.{statement}
use Rattle.text_names.proofs.name.is_name.Tie as tie

returns : tie.Need-returns
unfolding holds_name
returns c = c.holds_name.ensures

pub is_name_spec : {M : Type 1} → statement M
is_name_spec =
    tie.close (tie.spec (λ c κs. search rules) returns)
