use native.Mathlib.Omega.{arith}
use Rattle.manifest_heads.proofs.Heading.{name_inside, one_more}
use Rattle.manifest_heads.proofs.fill_heads.Goals as goal

pub head-requires : goal.head-requires
head-requires c = name_inside c.requires.0 _ c.loop-k-test.true

pub loop-k-preserved : goal.loop-k-preserved
loop-k-preserved c =
    let l = c.loop-k in
    one_more c.args.s.now c.args.names.now l.heads l.k c.head.result (omega (arith, c.requires.1, c.loop-k-test.true, l.auto.heads)) c.head.ensures
    l.invariant

pub returns : goal.returns
returns c =
    let l = c.loop-k in
    record { long = omega (arith, c.requires.1, l.auto.heads); each = λ i h. l.invariant i (omega (arith, c.loop-k-test.false)) }
