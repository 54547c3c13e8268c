-- `lookup_table::link_name` meets its contract: the references of a name stand together in the index. Assumes nothing.
use native.Mathlib.Omega.{arith}
use borrow.Author.Rules.{rules}
use Rattle.manifest_objects.specs.Objects.{Named}
use Rattle.manifest_objects.proofs.Standing.{stand_length}
use Rattle.lookup_table.proofs.Linking.{chosen_below, key_linked}
use Rattle.lookup_table.proofs.link_name.Statement.{statement}
use Rattle.lookup_table.proofs.link_name.Tie as tie

find-r-requires : tie.Need-find-r-requires
find-r-requires c κs = let p = c.requires in (p.0.table.index, p.1)

-- where the numbers of the name stand
module _ (c : tie.After-find-r) where
  abbrev start : tie.Start
  start = c.before.before.before.before.before.before.before

  found : Named start.args.b.now start.args.at.now start.args.order.now start.requires.1.name c.find-r.result
  found = c.find-r.ensures start.requires.1.name start.requires.1.stands

link-requires : tie.Need-link-requires
link-requires c κs =
    let f = c.before.before in
    let p = (start f).requires in
    let t = p.0.table in (
      record { refs = p.0.refs; stand = t.stand; few = t.few },
      chosen_below _ _ _ _ (λ i l. omega (arith, t.below i l, stand_length t.stand)) (found f).rising (found f).within,
      p.2,
    )

returns : tie.Need-returns
returns c = λ refs ks n t s h p.
    let k = c.before.before in
    key_linked _ _ _ _ refs t _ _ n _ (k.find-r.ensures n s) _ h ks _ _ p (k.link.ensures refs t.stand)

pub link_name_spec : {M : Type 1} → statement M
link_name_spec =
    tie.close (tie.spec find-r-requires (λ c. omega (arith, (found c).rising, (found c).within)) (λ c. (found c).rising) (λ c. (found c).rising)
    (λ c. (found c).within) link-requires (λ c. search rules) returns)
