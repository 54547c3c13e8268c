-- Where the rule with this index stands is what placing the rules wrote.
use Rattle.std.proofs.Common.{arith}
use Rattle.manifest.proofs.Accepting.{some_rule}
use Rattle.manifest_rules.proofs.RulePlaces.{placed_rule, some_rule_at}
use Rattle.test_facade.proofs.show_rules.Goals as goal

pub read-rule-requires : goal.read-rule-requires
read-rule-requires c =
    let e = c.place-n.ensures in
    some_rule_at _ _ _ (placed_rule _ _ _ _ e.3 (omega (arith, e.1, e.2)) c.loop-i.i c.loop-i-test.true)

pub asked-r-requires : goal.asked-r-requires
asked-r-requires c =
    let e = c.place-n.ensures in
    let here = placed_rule _ c.place-n.new.at c.place-n.result _ e.3 (omega (arith, e.1, e.2)) c.loop-i.i c.loop-i-test.true in
    (some_rule _ _ _ (c.read-rule.ensures _ here), c.requires.1)

pub matches-requires : goal.matches-requires
matches-requires c =
    let e = c.place-n.ensures in
    let here = placed_rule _ c.place-n.new.at c.place-n.result _ e.3 (omega (arith, e.1, e.2)) c.loop-i.i c.loop-i-test.true in
    some_rule _ _ _ (c.read-rule.ensures _ here)
