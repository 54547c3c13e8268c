-- `manifest_index::collect_self` meets its contract: the names of the group `self` are collected. Assumes nothing.
use borrow.Author.Rules.{rules}
use native.Mathlib.Omega.{arith}
use Rattle.manifest_index.proofs.Placing.{own_missing, own_group, own_names}
use Rattle.manifest_index.proofs.collect_self.Statement.{statement}
use Rattle.manifest_index.proofs.collect_self.Tie as tie

collect_group-requires : tie.Need-collect_group-requires
collect_group-requires c κs =
    let a = c.before.before.before.before in
    own_group _ _ a.requires.0 _ a.requires.1 _ c.in-Some.is

returns-in-None : tie.Need-returns-in-None
returns-in-None c = (omega arith, own_missing _ _ c.requires.0 c.in-None.is)

returns-in-Some : tie.Need-returns-in-Some
returns-in-Some c =
    let f = c.before.before in
    let d = f.before in
    let a = d.before.before.before.before in
    let e = d.in-Some.is in
    let before = a.args.names.now in
    let g = own_group _ _ a.requires.0 before a.requires.1 _ e in
    (f.collect_group.ensures.0, own_names _ _ a.requires.0 before a.requires.1 _ e _ (f.collect_group.ensures.1 g.fields g.here))

pub collect_self_spec : {M : Type 1} → statement M
collect_self_spec =
    tie.close (tie.spec (λ c. search rules) (λ c. search rules) collect_group-requires returns-in-None (λ c. search rules) returns-in-Some)
