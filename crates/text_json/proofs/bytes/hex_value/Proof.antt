-- `text_json::bytes::hex_value` meets its contract: the tests that were made say which kind of digit it is, and its kind bounds the
-- subtraction.
-- Assumes nothing.
use native.Mathlib.Omega.{arith}
use borrow.Author.Rules.{rules}
use borrow.Author.Tests.{le-leb, lt-leb}
use Rattle.text_json.specs.Bytes.{hex_value}
use Rattle.text_json.proofs.ByteTests.{hex_low, hex_lower}
use Rattle.text_json.proofs.bytes.hex_value.Statement.{statement}
use Rattle.text_json.proofs.bytes.hex_value.Tie as tie

overflow_sub-result : tie.Need-overflow_sub-result
overflow_sub-result c = hex_low _ c.requires

overflow_sub-result-else-b-le70 : tie.Need-overflow_sub-result-else-b-le70
overflow_sub-result-else-b-le70 c = omega (arith, hex_lower _ c.requires c.if-b-le70.false)

returns-then-b-le57 : tie.Need-returns-then-b-le57
unfolding hex_value
returns-then-b-le57 c = rw (hex_value, le-leb _ _ c.if-b-le57.true)

returns-then-b-le70 : tie.Need-returns-then-b-le70
unfolding hex_value
returns-then-b-le70 c = rw (hex_value, lt-leb _ _ c.if-b-le57.false, le-leb _ _ c.if-b-le70.true)

returns-else-b-le70 : tie.Need-returns-else-b-le70
unfolding hex_value
returns-else-b-le70 c = rw (hex_value, lt-leb _ _ c.if-b-le57.false, lt-leb _ _ c.if-b-le70.false)

pub hex_value_spec : {M : Type 1} → statement M
hex_value_spec =
    tie.close (tie.spec overflow_sub-result (λ c. search rules) (λ c. search rules) (λ c. search rules) overflow_sub-result-else-b-le70 (λ c. search rules) returns-then-b-le57 returns-then-b-le70
    returns-else-b-le70)
