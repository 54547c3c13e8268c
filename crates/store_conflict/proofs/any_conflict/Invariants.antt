-- The answer for the images from this one on is the answer for all.
use Rattle.std.proofs.Common.{◌≡◌, drop}
use Rattle.laws.specs.Any.{any_pair}
use Rattle.store_record.specs.Reading.{images_in}
use Rattle.store_keys.specs.Signed.{layers_clash}
use Rattle.store_conflict.proofs.any_conflict.Given as goal

abbrev pub invariant-loop-i : goal.invariant-loop-i
invariant-loop-i l = any_pair layers_clash (drop l.i (images_in l.b l.v)) ≡ any_pair layers_clash (images_in l.b l.v)
