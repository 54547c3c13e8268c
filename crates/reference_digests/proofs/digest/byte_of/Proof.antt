-- `reference_digests::digest::byte_of` meets its contract: a digit stands for a number below 16. Assumes nothing.
use borrow.Author.Rules.{rules}
use native.Mathlib.Omega.{arith}
use Rattle.text_json.proofs.ByteTests.{hex_below}
use Rattle.reference_digests.proofs.Digests.{lower_is_hex}
use Rattle.reference_digests.proofs.digest.byte_of.Statement.{statement}
use Rattle.reference_digests.proofs.digest.byte_of.Tie as tie

hex_value-requires : tie.Need-hex_value-requires
hex_value-requires c κs = lower_is_hex _ c.requires.0

overflow_mul-result : tie.Need-overflow_mul-result
overflow_mul-result c = omega (arith, c.hex_value.ensures, hex_below _ (lower_is_hex _ c.requires.0))

hex_value-requires-2 : tie.Need-hex_value-requires-2
hex_value-requires-2 c κs = lower_is_hex _ c.requires.1

overflow_add-result : tie.Need-overflow_add-result
overflow_add-result c =
    let a = hex_below _ (lower_is_hex _ c.requires.0) in
    let b = hex_below _ (lower_is_hex _ c.requires.1) in
    omega (arith, c.hex_value.ensures, c.hex_value-2.ensures)

overflow_cast-result : tie.Need-overflow_cast-result
overflow_cast-result c =
    let a = hex_below _ (lower_is_hex _ c.requires.0) in
    let b = hex_below _ (lower_is_hex _ c.requires.1) in
    omega (arith, c.hex_value.ensures, c.hex_value-2.ensures)

pub byte_of_spec : {M : Type 1} → statement M
byte_of_spec =
    tie.close (tie.spec hex_value-requires overflow_mul-result hex_value-requires-2 overflow_add-result overflow_cast-result (λ c. search rules))
