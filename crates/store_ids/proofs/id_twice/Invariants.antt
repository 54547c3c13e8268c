-- The answer for the images from i on is the answer for all.
use mathlib.Core.Path.{◌≡◌}
use lib.ListN.{drop}
use Rattle.laws.specs.Any.{any_pair}
use Rattle.store_record.specs.Ids.{share_id, id_twice}
use Rattle.store_record.specs.Reading.{images_in}
use Rattle.store_ids.proofs.id_twice.Given as goal

abbrev pub invariant-loop-i : goal.invariant-loop-i
invariant-loop-i l = any_pair share_id (drop l.i (images_in l.s l.v)) ≡ id_twice (images_in l.s l.v)
