-- `text_json::bytes::is_plain` meets its contract: its tests are those of the definition.
-- Assumes nothing.
use mathlib.Core.Path.{refl}
use Rattle.text_json.specs.Bytes.{is_plain}
use Rattle.text_json.proofs.bytes.is_plain.Statement.{statement}
use Rattle.text_json.proofs.bytes.is_plain.Tie as tie

pub is_plain_spec : {M : Type 1} → statement M
unfolding is_plain
is_plain_spec =
    tie.close (tie.spec (λ c. refl))
