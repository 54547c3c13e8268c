-- `text_utf8::byte_in` meets its contract: at each `return` the tests that led there say whether the byte is within the range.
-- Assumes nothing.
use borrow.Author.Rules.{rules}
use native.Mathlib.Omega.{arith}
use mathlib.Core.Path.{sym}
use Rattle.text_utf8.specs.Utf8.{range}
use Rattle.text_utf8.proofs.Ranges.{within_in, within_over, within_under}
use Rattle.text_utf8.proofs.Chars.{byte_meets, byte_misses, end_misses}
use Rattle.text_utf8.proofs.byte_in.Statement.{statement}
use Rattle.text_utf8.proofs.byte_in.Tie as tie

returns-then-b-high : tie.Need-returns-then-b-high
returns-then-b-high c =
    let a = c.args in
    sym (byte_meets (range a.low a.high) a.text.now a.at (omega arith) (within_in a.low a.high _ (omega arith) (omega arith)))

returns-else-b-high : tie.Need-returns-else-b-high
returns-else-b-high c =
    let a = c.args in
    sym (byte_misses (range a.low a.high) a.text.now a.at (omega arith) (within_over (range a.low a.high) _ (omega arith)))

returns-else-low-b : tie.Need-returns-else-low-b
returns-else-low-b c =
    let a = c.args in
    sym (byte_misses (range a.low a.high) a.text.now a.at (omega arith) (within_under (range a.low a.high) _ (omega arith)))

returns-else-at-text : tie.Need-returns-else-at-text
returns-else-at-text c =
    let a = c.args in
    sym (end_misses (range a.low a.high) a.text.now a.at (omega arith))

pub byte_in_spec : {M : Type 1} → statement M
byte_in_spec =
    tie.close (tie.spec (λ c. search rules) returns-then-b-high returns-else-b-high returns-else-low-b returns-else-at-text)
