-- `policy_rows::named_by` meets its contract: the names that the rule asks for stand together in the index.
use Prim.Native.Nat.{◌-◌, ◌/◌}
use mathlib.Core.Path.{◌∙◌}
use native.Mathlib.Omega.{arith}
use borrow.Author.Rules.{rules}
use lib.Dec.{eqb}
use lib.ListN.{drop, length-drop}
use lib.Seq.{length-take-le}
use Rattle.manifest_index.specs.Index.{Asked}
use Rattle.manifest_index.proofs.Indexing.{index_number, asked_any}
use Rattle.store_names.proofs.Numbering.{part_below}
use Rattle.policy_rows.proofs.named_by.Statement.{statement}
use Rattle.policy_rows.proofs.named_by.Tie as tie

-- where the names stand, for the rule that was read
module _ (c : tie.After-asked-r) where
  abbrev start : tie.Start
  start = c.before.before.before.before.before

  found : Asked start.args.b.now start.args.at.now start.args.order.now start.requires.0.rule c.asked-r.result
  found = c.asked-r.ensures start.requires.0.rule start.requires.0.read

owners-requires : tie.Need-owners-requires
owners-requires c κs = λ i h.
    let a = start c.before in
    let f = found c.before in
    let r = c.asked-r.result in
    let order = a.args.order.now in
    let size = length-take-le (r.to - r.from) (drop r.from order) (omega (arith, length-drop r.from order, f.within)) in
    part_below order 4096 r.from (r.to - r.from) (λ k l. omega (arith, index_number a.requires.1.index k l, a.requires.2)) (omega (
      arith,
      f.rising,
      f.within,
    ))
    i (omega (arith, h, size))

returns : tie.Need-returns
returns c = λ y k j. c.owners.ensures j ∙ asked_any (c.asked-r.ensures y k) (λ e. eqb (e / 64) j)

pub named_by_spec : {M : Type 1} → statement M
named_by_spec =
    tie.close (tie.spec (λ c κs. search rules) (λ c. omega (arith, (found c).rising, (found c).within)) (λ c. (found c).rising) (λ c. (found c).rising)
    (λ c. (found c).within) owners-requires returns)
