-- The entries of the digests passed are written.
use lib.ListN.{length}
use Rattle.lookup_outcome.specs.Resolving.{Writable}
use Rattle.lookup_outcome.proofs.Writing.{WrittenTo}
use Rattle.lookup_outcome.proofs.write_all.Given as goal

abbrev pub invariant-loop-number : goal.invariant-loop-number
invariant-loop-number l = (w : Writable l.b l.keys l.numbers (length l.initial.out)) → WrittenTo w.digests l.number-index l.n l.initial.out l.out
