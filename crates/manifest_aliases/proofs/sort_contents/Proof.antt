-- `manifest_aliases::sort_contents` meets its contract: the names of the group `contents` are sorted. Assumes nothing.
use borrow.Author.Rules.{rules}
use Rattle.manifest.proofs.Groups.{contents_space, contents_sorted}
use Rattle.manifest_aliases.proofs.sort_contents.Statement.{statement}
use Rattle.manifest_aliases.proofs.sort_contents.Tie as tie

sort_contents-requires : tie.Need-sort_contents-requires
sort_contents-requires c κs =
    let a = c.before.before.before.before.before.before.before in
    contents_space _ _ a.requires.0 _ _ a.requires.1 _ a.requires.2

returns : tie.Need-returns
returns c =
    let f = c.before.before.before.before.before.before in
    let a = f.before.before.before.before.before.before.before.before in
    (f.sort_contents.ensures.0, contents_sorted _ _ a.requires.0 _ _ f.sort_contents.ensures.1)

pub sort_contents_spec : {M : Type 1} → statement M
sort_contents_spec =
    tie.close (tie.spec sort_contents-requires (λ c. search rules) (λ c. search rules) (λ c. search rules) returns)
