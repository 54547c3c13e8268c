-- A byte more of the name is found with each step, or another one. Assumes nothing.
use mathlib.Core.Path.{refl, sym, ◌∙◌}
use native.Mathlib.Omega.{arith}
use lib.ListN.{drop, length-drop}
use Rattle.reference_parts.proofs.Counting.{first_shorter, begins, next_same, next_differs, next_plain, as_begins, other_length}
use Rattle.reference_parts.proofs.part.is_plain.Goals as goal

pub returns-then-len-name : goal.returns-then-len-name
returns-then-len-name c = other_length _ _ (λ e. c.if-len-name.true (c.requires.1 ∙ e))

pub loop-k-init : goal.loop-k-init
loop-k-init c = (omega (arith, first_shorter (drop c.args.i c.args.s.now), length-drop c.args.i c.args.s.now), refl)

pub returns-then-s-i : goal.returns-then-s-i
returns-then-s-i c =
    next_differs (drop c.args.i c.args.s.now) _ _ c.loop-k.k c.loop-k.invariant.1 c.loop-k-test.true _ _
    (next_plain c.args.s.now c.args.i c.loop-k.k (omega arith)) c.if-s-i.true
    ∙ as_begins _ _ (sym c.if-len-name.false ∙ c.requires.1)

pub loop-k-preserved : goal.loop-k-preserved
loop-k-preserved c = (
  c.loop-k.invariant.0,
  next_same (drop c.args.i c.args.s.now) _ _ c.loop-k.k c.loop-k.invariant.1 c.loop-k-test.true _ _
      (next_plain c.args.s.now c.args.i c.loop-k.k (omega arith)) c.if-s-i.false,
)

pub returns : goal.returns
returns c =
    begins (drop c.args.i c.args.s.now) _ _ c.loop-k.k c.loop-k.invariant.1 c.loop-k-test.false
    ∙ as_begins _ _ (sym c.if-len-name.false ∙ c.requires.1)
