-- The numbers before this one are added.
use Rattle.store_names.proofs.Numbering.{Adding}
use Rattle.store_names.proofs.index_image.Given as goal

abbrev pub invariant-loop-k : goal.invariant-loop-k
invariant-loop-k l = Adding l.b l.at l.first l.n l.k l.initial.order l.order
