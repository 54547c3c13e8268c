-- None of the images before this one is of the signer.
use Rattle.std.proofs.Common.{◌≡◌, ℕ, ◌<◌, false, get_or}
use Rattle.store_record.specs.Reading.{no_record}
use Rattle.store_names.specs.Shared.{signed_as}
use Rattle.store_shared.proofs.first_signed.Given as goal

abbrev pub invariant-loop-j : goal.invariant-loop-j
invariant-loop-j l = (i : ℕ) → i < l.j → signed_as l.b l.a l.signer (get_or l.v.records i no_record) ≡ false
