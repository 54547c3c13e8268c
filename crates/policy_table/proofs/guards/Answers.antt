use Rattle.std.proofs.Common.{◌≡◌, ◌-◌, sym, ◌∙◌, arith, length}
use Rattle.store_record.specs.Reading.{between, held_in}
use Rattle.store_names.proofs.Opened.{opened_at}
use Rattle.policy_rows.specs.Accepting.{is_guard, guards}
use Rattle.policy_rows.proofs.Rows.{images_none, image_unmarked, image_marked, built_all}
use Rattle.policy_table.proofs.guards.Goals as goal

pub loop-j-init : goal.loop-j-init
loop-j-init c =
    let v = c.args.v in
    let room : length v.records ≡ 64 = omega arith in
    images_none c.args.b.now v c.requires.fills.few room is_guard

pub rejects-requires : goal.rejects-requires
unfolding between
rejects-requires c =
    let next = c.loop-j.j - 1 in
    opened_at _ _ _ c.requires next (omega (arith, c.loop-j.invariant.within, c.loop-j-test.true)) _

pub loop-j-preserved-then-rejects : goal.loop-j-preserved-then-rejects
unfolding between is_guard held_in
loop-j-preserved-then-rejects c =
    let v = c.args.v in
    let room : length v.records ≡ 64 = omega arith in
    let l = c.loop-j in
    image_marked c.args.b.now v c.requires.fills.few room is_guard _ _ c.loop-j-test.true l.invariant (sym c.rejects.ensures ∙ c.if-rejects.true)

pub loop-j-preserved : goal.loop-j-preserved
unfolding between is_guard held_in
loop-j-preserved c =
    let v = c.args.v in
    let room : length v.records ≡ 64 = omega arith in
    let l = c.loop-j in
    image_unmarked c.args.b.now v c.requires.fills.few room is_guard _ _ c.loop-j-test.true l.invariant (sym c.rejects.ensures ∙ c.if-rejects.false)

pub returns-clause-result_value : goal.returns-clause-result_value
unfolding guards
returns-clause-result_value c = (built_all is_guard _ _ _ _ c.loop-j-test.false c.loop-j.invariant).0
