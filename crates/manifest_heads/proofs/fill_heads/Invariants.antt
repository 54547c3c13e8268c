use Rattle.manifest_heads.proofs.Heading.{FirstHeads}
use Rattle.manifest_heads.proofs.fill_heads.Given as goal

-- the heads of the first k names are there
abbrev pub invariant-loop-k : goal.invariant-loop-k
invariant-loop-k l = FirstHeads l.s l.names l.heads l.k
