-- `manifest_names::asked::any` meets its contract: a missing group has no aliases, and those of the group that was found are tried.
-- Assumes nothing.
use borrow.Author.Rules.{rules}
use Rattle.manifest_fields.proofs.Founds.{missing_members}
use Rattle.manifest_names.proofs.Founds.{group_here, its_object, none_tried}
use Rattle.manifest_names.proofs.asked.any.Statement.{statement}
use Rattle.manifest_names.proofs.asked.any.Tie as tie

any_grouped-requires : tie.Need-any_grouped-requires
any_grouped-requires c κs =
    let a = c.before.before.before.before.before.before in
    (a.requires.0, a.requires.1, group_here _ _ _ a.requires.2 _ c.in-Some.is)

returns-in-None : tie.Need-returns-in-None
returns-in-None c = λ i o f. none_tried _ _ (missing_members _ _ _ o f c.in-None.is)

returns-in-Some : tie.Need-returns-in-Some
returns-in-Some c =
    let d = c.before in
    let a = d.before.before.before.before.before.before in
    λ i o f. c.any_grouped.ensures i _ (its_object _ _ _ a.requires.2 _ d.in-Some.is o f)

pub any_spec : {M : Type 1} → statement M
any_spec =
    tie.close (tie.spec (λ c. search rules) (λ c. search rules) any_grouped-requires returns-in-None returns-in-Some)
