-- `lookup_index::tabulate` meets its contract: what is marked as an alias has a name, and stands in the index. Assumes nothing.
use mathlib.Core.Path.{◌≡◌, ◌∙◌}
use native.Mathlib.Omega.{arith}
use borrow.Author.Rules.{rules}
use lib.ListN.{length}
use Rattle.manifest_objects.proofs.Standing.{stand_length}
use Rattle.lookup_index.proofs.Indexing.{undefined_number, table_made}
use Rattle.lookup_index.proofs.tabulate.Statement.{statement}
use Rattle.lookup_index.proofs.tabulate.Tie as tie

mark_all-requires : tie.Need-mark_all-requires
mark_all-requires c κs = let p = c.requires in (p.0, p.1, omega (arith, p.2))

-- the references are marked
module _ (k : tie.After-mark_all) where
  abbrev start : tie.Start
  start = k.before.before.before.before.before.before.before.before

  size : length k.mark_all.new.next ≡ length start.args.keys.now
  size = k.mark_all.auto.next ∙ start.requires.2

index_refs-requires : tie.Need-index_refs-requires
index_refs-requires c κs =
    let k = c.before.before.before.before.before in
    let p = (start k).requires in
    let w = k.mark_all.ensures p.0.refs p.0.stand in (
      undefined_number _ _ _ _ p.0.refs p.0.stand w.1 w.0 (size k ∙ stand_length p.0.stand),
      omega (arith, size k, p.0.few),
      omega (arith, size k, p.3),
    )

returns : tie.Need-returns
returns c =
    let k = c.before.before.before.before.before.before.before.before in
    let e = c.index_refs.ensures in (
      omega (arith, e.0, size k),
      λ refs s.
          let w = k.mark_all.ensures refs s in
          (w.0, table_made _ _ _ _ refs s w.1 w.0 (size k ∙ stand_length s) _ (start k).requires.0.few e.2),
    )

pub tabulate_spec : {M : Type 1} → statement M
tabulate_spec =
    tie.close (tie.spec mark_all-requires index_refs-requires (λ c. search rules) (λ c. search rules) (λ c. search rules) returns)
