use Rattle.std.proofs.Common.{arith, ◌≡◌, length}
use mathlib.Core.Path.{sym, ◌∙◌}
use Rattle.text_json.proofs.Words.{spaces_more, spaces_stop, spaces_end}
use Rattle.text_json.proofs.space.skip_spaces.Goals as goal

pub returns-then-not-is_space : goal.returns-then-not-is_space
returns-then-not-is_space c =
    let other = sym c.is_space.ensures ∙ c.if-not-is_space.true in
    (omega arith, (omega arith, c.loop-i.invariant ∙ spaces_stop _ _ c.loop-i-test.true other))

pub loop-i-preserved : goal.loop-i-preserved
loop-i-preserved c = c.loop-i.invariant ∙ spaces_more _ _ c.loop-i-test.true (sym c.is_space.ensures ∙ c.if-not-is_space.false)

pub returns : goal.returns
returns c =
    let last : c.loop-i.i ≡ length c.args.s.now = omega (arith, c.loop-i.auto.i-end c.requires) in
    (c.requires, (omega arith, rw last at (c.loop-i.invariant ∙ spaces_end _ _ c.loop-i-test.false)))
