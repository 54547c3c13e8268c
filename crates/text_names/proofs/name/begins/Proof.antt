-- `text_names::name::begins` meets its contract: the content's first bytes are compared. Assumes nothing.
use borrow.Author.Rules.{rules}
use Rattle.text_names.specs.Named.{holds_name}
use Rattle.text_names.proofs.name.begins.Statement.{statement}
use Rattle.text_names.proofs.name.begins.Tie as tie

returns : tie.Need-returns
unfolding holds_name
returns c = c.holds_name.ensures

pub begins_spec : {M : Type 1} → statement M
begins_spec =
    tie.close (tie.spec (λ c κs. search rules) returns)
