-- The answer for the images from j on is the answer from the start.
use mathlib.Core.Path.{◌≡◌}
use lib.ListN.{drop}
use Rattle.laws.specs.Any.{any_of}
use Rattle.reference.specs.References.{image_id}
use Rattle.store_record.specs.Ids.{has_id}
use Rattle.store_record.specs.Reading.{images_in}
use Rattle.store_ids.proofs.is_held.Given as goal

abbrev pub invariant-loop-j : goal.invariant-loop-j
invariant-loop-j l = any_of (has_id (image_id l.a l.signer l.manifest)) (drop l.j (images_in l.s l.v)) ≡ any_of (has_id (image_id l.a l.signer l.manifest)) (drop l.initial.j (images_in l.s l.v))
