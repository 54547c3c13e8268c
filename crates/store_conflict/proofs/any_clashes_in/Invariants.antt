-- The answer for the images from this one on is the answer from the start.
use Rattle.std.proofs.Common.{◌≡◌, drop}
use Rattle.laws.specs.Any.{any_of}
use Rattle.store_record.specs.Reading.{images_in}
use Rattle.store_conflict.specs.Asked.{clashes_in}
use Rattle.store_conflict.proofs.any_clashes_in.Given as goal

abbrev pub invariant-loop-j : goal.invariant-loop-j
invariant-loop-j l =
    any_of (clashes_in l.which l.a l.signer l.s) (drop l.j (images_in l.b l.v))
    ≡ any_of (clashes_in l.which l.a l.signer l.s) (drop l.initial.j (images_in l.b l.v))
