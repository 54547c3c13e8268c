-- The answer for the images from this one on is the answer from the start.
use Rattle.std.proofs.Common.{◌≡◌, drop}
use Rattle.laws.specs.Any.{any_of}
use Rattle.store_record.specs.Reading.{images_in}
use Rattle.store_keys.specs.Signed.{is_signed}
use Rattle.store_conflict.proofs.has_signer.Given as goal

abbrev pub invariant-loop-j : goal.invariant-loop-j
invariant-loop-j l =
    any_of (is_signed l.a l.signer) (drop l.j (images_in l.b l.v)) ≡ any_of (is_signed l.a l.signer) (drop l.initial.j (images_in l.b l.v))
