-- `policy_rows::matches_image` meets its contract: the image of a record has one ID.
use mathlib.Core.Path.{◌∙◌}
use Rattle.store_record.specs.Reading.{between}
use Rattle.policy_rows.proofs.Joining.{matches_held}
use borrow.Author.Rules.{rules}
use Rattle.policy_rows.proofs.matches_image.Statement.{statement}
use Rattle.policy_rows.proofs.matches_image.Tie as tie

matches-requires : tie.Need-matches-requires
matches-requires c κs = c.requires.0

returns : tie.Need-returns
unfolding between
returns c = λ y k e. c.matches.ensures y _ k e ∙ matches_held y _ _

pub matches_image_spec : {M : Type 1} → statement M
matches_image_spec =
    tie.close (tie.spec (λ c. search rules) (λ c. search rules) (λ c. search rules) (λ c. search rules) (λ c. search rules) (λ c. search rules)
    matches-requires returns)
