-- An entry is passed with each step. Assumes nothing.
use mathlib.Core.Path.{sym, ◌∙◌}
use native.Mathlib.Omega.{arith}
use Rattle.lookup_layers.proofs.Walking.{list_done, list_broken, list_next}
use Rattle.lookup_layers.proofs.is_list.Goals as goal

pub returns-in_default : goal.returns-in_default
returns-in_default c =
    sym (list_broken c.args.s.now c.loop-i.i c.loop-i-test.true (rw c.in_default.is at c.read.ensures)) ∙ c.loop-i.invariant.1

pub loop-i-smaller : goal.loop-i-smaller
loop-i-smaller c = let h = rw c.in-Some.is at c.read.ensures in omega (arith, h.digest, h.end, c.loop-i-test.true)

pub loop-i-preserved : goal.loop-i-preserved
loop-i-preserved c =
    let h = rw c.in-Some.is at c.read.ensures in
    (h.within, sym (list_next c.args.s.now c.loop-i.i _ _ _ h) ∙ c.loop-i.invariant.1)

pub returns : goal.returns
returns c = sym (list_done c.args.s.now c.loop-i.i c.loop-i-test.false) ∙ c.loop-i.invariant.1
