-- The parts are read one after the other.
-- Assumes nothing.
use Rattle.reference.proofs.Forms.{layer_one, layer_three, layer_five}
use Rattle.reference.proofs.Steps.{at_last, three_parts, past_four}
use Rattle.reference.proofs.layer.read.Goals as goal

pub returns-then-first : goal.returns-then-first
returns-then-first c = layer_one _ (at_last _ _ _ c.read-first.ensures c.if-first.true)

pub returns-then-third : goal.returns-then-third
returns-then-third c =
    layer_three _ _ _ _ (three_parts _ _ _ _
    (record { here = c.requires; first = c.read-first.ensures; more = c.if-first.false; second = c.read-second.ensures }) _
    (record { here = c.read-first.ensures.inside; first = c.read-second.ensures; more = c.if-second.false; second = c.read-third.ensures })
    c.if-third.true)

pub returns : goal.returns
returns c =
    layer_five _ _ _ _ _ _ (past_four _ _ _ _
    (record { here = c.requires; first = c.read-first.ensures; more = c.if-first.false; second = c.read-second.ensures }) _
    (record { here = c.read-first.ensures.inside; first = c.read-second.ensures; more = c.if-second.false; second = c.read-third.ensures }) _
    (record { here = c.read-second.ensures.inside; first = c.read-third.ensures; more = c.if-third.false; second = c.read-fourth.ensures })
    c.if-fourth.false)
