-- `manifest_index::is_same` meets its contract: the contents at the two positions are compared. Assumes nothing.
use borrow.Author.Rules.{rules}
use Rattle.text_index.specs.Index.{entry_text}
use Rattle.manifest_index.specs.Index.{name_at}
use Rattle.manifest_index.proofs.is_same.Statement.{statement}
use Rattle.manifest_index.proofs.is_same.Tie as tie

returns : tie.Need-returns
unfolding name_at entry_text
returns c = c.equal.ensures

pub is_same_spec : {M : Type 1} → statement M
is_same_spec =
    tie.close (tie.spec (λ c. search rules) (λ c. search rules) (λ c. search rules) (λ c. search rules) (λ c κs. search rules) returns)
