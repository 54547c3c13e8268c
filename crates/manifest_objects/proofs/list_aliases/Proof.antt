-- `manifest_objects::list_aliases` meets its contract: the aliases of `contents` are listed. Assumes nothing.
use borrow.Author.Rules.{rules}
use mathlib.Core.Path.{refl}
use native.Mathlib.Omega.{arith}
use Rattle.manifest_objects.proofs.FoundObjects.{nothing_listed, listable_group, contents_listed}
use Rattle.manifest_objects.proofs.list_aliases.Statement.{statement}
use Rattle.manifest_objects.proofs.list_aliases.Tie as tie

returns-in-None : tie.Need-returns-in-None
returns-in-None c =
    let a = c.before.before.before.before in
    (omega arith, refl, refl, nothing_listed _ _ a.requires.0 c.in-None.is)

list_group-requires : tie.Need-list_group-requires
list_group-requires c κs =
    let g = c.before.before in
    let a = g.before.before.before.before in
    listable_group _ _ a.requires.0 _ g.in-Some.is _ _ a.requires.1 a.requires.2

returns-in-Some : tie.Need-returns-in-Some
returns-in-Some c =
    let f = c.before.before.before.before in
    let g = f.before.before.before in
    let a = g.before.before.before.before in
    let k = f.list_group.auto in
    (f.list_group.ensures.0, k.names, k.owners, contents_listed _ _ a.requires.0 _ g.in-Some.is f.list_group.ensures.1)

pub list_aliases_spec : {M : Type 1} → statement M
list_aliases_spec =
    tie.close (tie.spec (λ c. search rules) (λ c. search rules) list_group-requires returns-in-None (λ c. search rules) (λ c. search rules)
    returns-in-Some)
