use Rattle.std.proofs.Common.{◌≡◌, refl, arith, length}
use Rattle.policy_marks.specs.Words.{guards_in, rows_in}
use Rattle.policy_rows.specs.Accepting.{marks}
use Rattle.store_names.proofs.Placing.{placed_numbered}
use Rattle.policy_rows.proofs.Rows.{filled_none, row_written, rows_written}
use Rattle.policy_table.proofs.table.Goals as goal

pub place_all-requires : goal.place_all-requires
place_all-requires c = (c.requires.0, c.requires.3, c.requires.1, refl)

pub index_all-n-requires : goal.index_all-n-requires
index_all-n-requires c =
    let p = c.place_all.ensures in
    let few = c.requires.0.fills.few in
    (placed_numbered _ _ _ _ _ few p, few, p.counts_space, c.requires.2)

pub loop-i-init : goal.loop-i-init
loop-i-init c = filled_none _ _ _ _ c.requires.0.fills.few

pub row-requires : goal.row-requires
row-requires c =
    let names = c.place_all in
    (c.requires.0, record { counts = names.new.counts; placed = names.ensures; index = c.index_all-n.ensures.2 }, omega (arith, c.loop-i-test.true))

pub bounds-rows-i : goal.bounds-rows-i
bounds-rows-i c = omega (arith, c.requires.0.fills.few)

pub loop-i-preserved : goal.loop-i-preserved
loop-i-preserved c =
    let v = c.args.v in
    let few = c.requires.0.fills.few in
    let room : length v.records ≡ 64 = omega arith in
    row_written c.args.b.now v few room _ _ c.loop-i.i c.loop-i.invariant c.row.result c.loop-i-test.true c.row.ensures.result_value

pub returns : goal.returns
unfolding guards_in rows_in marks
returns c =
    let v = c.args.v in
    let few = c.requires.0.fills.few in
    let room : length v.records ≡ 64 = omega arith in
    (refl, c.guards.ensures.result_value, rows_written c.args.b.now v few room _ _ c.loop-i.i c.loop-i.invariant c.loop-i-test.false)
