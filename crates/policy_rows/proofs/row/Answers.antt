use Rattle.std.proofs.Common.{◌∙◌, arith, length, get_or, ◌≤◌}
use Rattle.reference.specs.References.{no_rule}
use Rattle.manifest.proofs.Accepting.{some_rule}
use Rattle.manifest_rules.proofs.RulePlaces.{placed_rule, some_rule_at}
use Rattle.store_record.specs.Reading.{between, held_in, images_in, no_record}
use Rattle.store_record.proofs.Walks.{images_length}
use Rattle.store_names.proofs.Opened.{opened_at}
use Rattle.policy_rows.proofs.Joining.{joined_none, joined_next, joined_all, accepts_row}
use Rattle.policy_rows.proofs.row.Goals as goal

pub bounds-v-k : goal.bounds-v-k
bounds-v-k c = omega (arith, c.requires.0.fills.few)

pub slice_bounds-s-count : goal.slice_bounds-s-count
slice_bounds-s-count c = (c.requires.0.fills.each c.args.i.0 c.requires.2).text

pub slice_bounds-s-start : goal.slice_bounds-s-start
slice_bounds-s-start c = (c.requires.0.fills.each c.args.i.0 c.requires.2).text

pub slice_bounds-s-end : goal.slice_bounds-s-end
slice_bounds-s-end c = (c.requires.0.fills.each c.args.i.0 c.requires.2).within

pub bounds-places-k : goal.bounds-places-k
bounds-places-k c = omega (arith, c.requires.0.fills.few)

pub place-n-requires : goal.place-n-requires
unfolding between
place-n-requires c = (opened_at _ _ _ c.requires.0 c.args.i.0 c.requires.2 _, omega arith)

pub loop-j-init : goal.loop-j-init
loop-j-init c =
    let v = c.args.v in
    let fits : v.count ≤ length v.records = omega (arith, c.requires.0.fills.few) in
    joined_none _ _ _ _ (images_length c.args.b.now v fits)

pub bounds-at_rules-j : goal.bounds-at_rules-j
bounds-at_rules-j c = omega (arith, c.loop-j-test.true, c.place-n.ensures.1)

pub read-rule-requires : goal.read-rule-requires
read-rule-requires c =
    let q = c.place-n in
    let here = placed_rule _ q.new.at q.result _ q.ensures.3 (omega (arith, q.ensures.1, q.ensures.2)) c.loop-j.j (omega (arith, c.loop-j-test.true)) in
    some_rule_at _ _ _ here

pub matched-word-requires : goal.matched-word-requires
matched-word-requires c =
    let q = c.place-n in
    let here = placed_rule _ q.new.at q.result _ q.ensures.3 (omega (arith, q.ensures.1, q.ensures.2)) c.loop-j.j (omega (arith, c.loop-j-test.true)) in
    (some_rule _ _ _ (c.read-rule.ensures _ here), c.requires.0.fills, c.requires.1)

pub loop-j-preserved : goal.loop-j-preserved
loop-j-preserved c =
    let l = c.loop-j in
    let q = c.place-n in
    let here = placed_rule _ q.new.at q.result _ q.ensures.3 (omega (arith, q.ensures.1, q.ensures.2)) c.loop-j.j (omega (arith, c.loop-j-test.true)) in
    joined_next _ _ _ _ l.j l.word l.invariant no_rule c.matched-word.result (omega (arith, c.loop-j-test.true, c.place-n.ensures.0))
    (c.matched-word.ensures.result_value _ (c.read-rule.ensures _ here)) c.matched-word.ensures.upper_bound

pub returns : goal.returns
unfolding between held_in
returns c =
    let a = c.args in
    let l = c.loop-j in
    let e = joined_all _ _ _ _ l.j l.word l.invariant (omega (arith, c.loop-j-test.false, c.place-n.ensures.0)) in
    record {
      result_value = e ∙ accepts_row (held_in a.b.now (get_or a.v.records a.i.0 no_record)) (images_in a.b.now a.v);
      upper_bound = l.invariant.small;
    }
