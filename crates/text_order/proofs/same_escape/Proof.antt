-- `text_order::same_escape` meets its contract: a law for each way in which the test ends.
-- Assumes nothing.
use native.Mathlib.Omega.{arith}
use Rattle.text_strings.proofs.Cursors.{inside_within}
use Rattle.text_order.proofs.Twins.{letter_after, no_first, no_second, with_digits, by_letter}
use Rattle.text_order.proofs.same_escape.Statement.{statement}
use Rattle.text_order.proofs.same_escape.Tie as tie

bounds-s-p : tie.Need-bounds-s-p
bounds-s-p c = inside_within _ _ c.requires.0

returns-then-s-p-ne92 : tie.Need-returns-then-s-p-ne92
returns-then-s-p-ne92 c = no_first _ _ _ _ c.if-s-p-ne92.true

bounds-t-q : tie.Need-bounds-t-q
bounds-t-q c = inside_within _ _ c.requires.1

returns-then-t-q-ne92 : tie.Need-returns-then-t-q-ne92
returns-then-t-q-ne92 c = no_second _ _ _ _ c.if-s-p-ne92.false c.if-t-q-ne92.true

overflow_add-letter : tie.Need-overflow_add-letter
overflow_add-letter c = omega (arith, letter_after _ _ c.requires.0 c.if-s-p-ne92.false)

bounds-s-p-2 : tie.Need-bounds-s-p-2
bounds-s-p-2 c = letter_after _ _ c.requires.0 c.if-s-p-ne92.false

returns-then-letter-eq117 : tie.Need-returns-then-letter-eq117
returns-then-letter-eq117 c = with_digits _ _ _ _ c.if-s-p-ne92.false c.if-t-q-ne92.false c.if-letter-eq117.true

overflow_add-result : tie.Need-overflow_add-result
overflow_add-result c = omega (arith, letter_after _ _ c.requires.1 c.if-t-q-ne92.false)

bounds-t-q-2 : tie.Need-bounds-t-q-2
bounds-t-q-2 c = letter_after _ _ c.requires.1 c.if-t-q-ne92.false

returns : tie.Need-returns
returns c = by_letter _ _ _ _ c.if-s-p-ne92.false c.if-t-q-ne92.false c.if-letter-eq117.false

pub same_escape_spec : {M : Type 1} → statement M
same_escape_spec =
    tie.close (tie.spec bounds-s-p returns-then-s-p-ne92 bounds-t-q returns-then-t-q-ne92 overflow_add-letter bounds-s-p-2 returns-then-letter-eq117 overflow_add-result
    bounds-t-q-2 returns)
