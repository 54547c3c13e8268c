-- One law for each answer, by what stands at the position. Assumes nothing.
use mathlib.Core.Path.{sym, ◌∙◌}
use native.Mathlib.Omega.{arith}
use Rattle.lookup_layers.proofs.Reading.{unknown_here, cut_here, whole_here}
use Rattle.lookup_layers.proofs.read.Goals as goal

pub returns-in_err-algorithm : goal.returns-in_err-algorithm
returns-in_err-algorithm c =
    rw c.from_residual.ensures (unknown_here c.args.s.now c.args.i c.requires (sym c.from_byte.ensures ∙ c.in_err-algorithm.was))

pub returns-then-s-digest : goal.returns-then-s-digest
returns-then-s-digest c =
    cut_here c.args.s.now c.args.i c.requires c.in_ok-algorithm.algorithm (sym c.from_byte.ensures ∙ c.in_ok-algorithm.was)
    c.digest_bytes-n.result c.digest_bytes-n.ensures.0 (omega (arith, c.if-s-digest.true))

pub returns : goal.returns
returns c =
    whole_here c.args.s.now c.args.i c.requires c.in_ok-algorithm.algorithm (sym c.from_byte.ensures ∙ c.in_ok-algorithm.was)
    c.digest_bytes-n.result c.digest_bytes-n.ensures.0 (omega (arith, c.if-s-digest.false))
