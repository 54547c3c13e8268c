use Rattle.std.proofs.Common.{arith}
use mathlib.Core.Path.{sym, ◌∙◌}
use Rattle.text_chars.proofs.Plain.{ends_after, ends_here, goes_on}
use Rattle.text_chars.proofs.plain_tail.Goals as goal

pub returns-then-not-is_plain : goal.returns-then-not-is_plain
returns-then-not-is_plain c =
    let stop = ends_here c.args.s.now c.loop-i.i c.loop-i-test.true (sym c.is_plain.ensures ∙ c.if-not-is_plain.true) in
    omega (arith, c.loop-i.invariant)

pub loop-i-preserved : goal.loop-i-preserved
loop-i-preserved c =
    c.loop-i.invariant ∙ goes_on c.args.s.now c.loop-i.i c.loop-i-test.true (sym c.is_plain.ensures ∙ c.if-not-is_plain.false)

pub returns : goal.returns
returns c =
    let stop = ends_after c.args.s.now c.loop-i.i c.loop-i-test.false in
    omega (arith, c.loop-i.invariant, c.loop-i.auto.i-end c.requires)
