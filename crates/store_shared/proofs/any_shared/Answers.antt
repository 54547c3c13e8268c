-- The names are placed, indexed and grouped, and then gone through once.
use Rattle.std.proofs.Common.{◌∙◌, arith}
use Rattle.manifest_index.proofs.Indexing.{some_index}
use Rattle.store_names.proofs.Placing.{placed_numbered}
use Rattle.store_shared.proofs.Sharing.{index_shared}
use Rattle.store_shared.proofs.any_shared.Goals as goal

pub index_all-n-requires : goal.index_all-n-requires
index_all-n-requires c =
    let p = c.place_all.ensures in
    let few = c.requires.0.fills.few in
    (placed_numbered _ _ _ _ _ few p, few, p.counts_space, c.requires.2)

pub shares_any-requires : goal.shares_any-requires
shares_any-requires c = (some_index c.index_all-n.ensures.2, c.place_all.ensures.at_space, c.group_all.ensures.0)

pub returns-clause-value : goal.returns-clause-value
returns-clause-value c =
    let few = c.requires.0.fills.few in
    c.shares_any.ensures
    ∙ index_shared c.args.b.now c.args.v _ _ _ few (omega (arith, few)) c.place_all.ensures c.group_all.ensures.1 c.index_all-n.ensures.2
