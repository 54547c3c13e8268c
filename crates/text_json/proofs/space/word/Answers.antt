use Rattle.std.proofs.Common.{arith}
use mathlib.Core.Path.{◌∙◌}
use Rattle.text_json.proofs.Places.{steps_end, steps_stuck}
use Rattle.text_json.proofs.Words.{word_more, word_stop, word_short, word_end}
use Rattle.text_json.proofs.space.word.Goals as goal

pub returns-then-s-i : goal.returns-then-s-i
returns-then-s-i c =
    let p = c.loop-b.invariant in
    (p.past, steps_stuck _ _ p.inside _ (p.same ∙ word_short c.args.s.now c.loop-b.i _ _ c.if-s-i.true c.loop-b-test.true))

pub returns-then-s-i-2 : goal.returns-then-s-i-2
returns-then-s-i-2 c =
    let p = c.loop-b.invariant in
    (p.past, steps_stuck _ _ p.inside _ (p.same ∙ word_stop c.args.s.now c.loop-b.i c.args.w.now c.loop-b.b-index c.if-s-i.false c.loop-b-test.true c.if-s-i-2.true))

pub loop-b-preserved : goal.loop-b-preserved
loop-b-preserved c =
    let p = c.loop-b.invariant in
    record {
      past = omega arith;
      inside = omega arith;
      same = p.same ∙ word_more c.args.s.now c.loop-b.i c.args.w.now c.loop-b.b-index c.if-s-i.false c.loop-b-test.true c.if-s-i-2.false;
    }

pub returns : goal.returns
returns c =
    let p = c.loop-b.invariant in
    (p.past, steps_end _ _ p.inside _ tt (p.same ∙ word_end c.args.s.now c.loop-b.i _ _ c.loop-b-test.false))
