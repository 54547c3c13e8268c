-- `reference_parts::part::one_char` meets its contract: at a backslash stands an escape, whose character is encoded, and any other byte
-- stands for itself. Assumes nothing.
use native.Mathlib.Omega.{arith}
use Rattle.text_strings.proofs.Cursors.{inside_within}
use Rattle.text_strings.proofs.Positions.{escape_at}
use Rattle.reference_parts.proofs.Counting.{char_escaped, char_byte}
use Rattle.reference_parts.proofs.part.one_char.Statement.{statement}
use Rattle.reference_parts.proofs.part.one_char.Tie as tie

bounds-s-k : tie.Need-bounds-s-k
bounds-s-k c = inside_within _ _ c.requires.0

read_escape-e-requires : tie.Need-read_escape-e-requires
read_escape-e-requires c κs = escape_at _ _ c.requires.0 c.if-b-eq92.true

encoded-x-requires : tie.Need-encoded-x-requires
encoded-x-requires c κs = c.read_escape-e.ensures.small

returns-then-b-eq92 : tie.Need-returns-then-b-eq92
returns-then-b-eq92 c = char_escaped _ _ c.requires.0 _ _ _ c.read_escape-e.ensures c.encoded-x.ensures.0

overflow_add-result : tie.Need-overflow_add-result
overflow_add-result c = omega (arith, inside_within _ _ c.requires.0)

overflow_cast-result : tie.Need-overflow_cast-result
overflow_cast-result c = omega (arith, c.shared_slice_known-2-1.given c.args.k)

returns : tie.Need-returns
returns c = char_byte _ _ c.requires.0 c.requires.1 c.if-b-eq92.false

pub one_char_spec : {M : Type 1} → statement M
one_char_spec =
    tie.close (tie.spec bounds-s-k read_escape-e-requires encoded-x-requires returns-then-b-eq92 overflow_add-result overflow_cast-result returns)
