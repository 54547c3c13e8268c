-- `text_view::value::escape_end` meets its contract: the letter after the backslash tells how long the escape is. Assumes nothing.
use native.Mathlib.Omega.{arith}
use Rattle.text_strings.proofs.Escapes.{letter_within}
use Rattle.text_view.proofs.Passing.{escape_six, escape_two}
use Rattle.text_view.proofs.value.escape_end.Statement.{statement}
use Rattle.text_view.proofs.value.escape_end.Tie as tie

overflow_add-i : tie.Need-overflow_add-i
overflow_add-i c = omega (arith, letter_within _ _ c.requires)

bounds-s-i : tie.Need-bounds-s-i
bounds-s-i c = letter_within _ _ c.requires

overflow_add-result : tie.Need-overflow_add-result
overflow_add-result c = omega (arith, (escape_six _ _ c.requires c.if-s-i-eq117.true).within)

overflow_add-result-else-s-i-eq117 : tie.Need-overflow_add-result-else-s-i-eq117
overflow_add-result-else-s-i-eq117 c = omega (arith, (escape_two _ _ c.requires c.if-s-i-eq117.false).within)

returns-then-s-i-eq117 : tie.Need-returns-then-s-i-eq117
returns-then-s-i-eq117 c = escape_six _ _ c.requires c.if-s-i-eq117.true

returns-else-s-i-eq117 : tie.Need-returns-else-s-i-eq117
returns-else-s-i-eq117 c = escape_two _ _ c.requires c.if-s-i-eq117.false

pub escape_end_spec : {M : Type 1} → statement M
escape_end_spec =
    tie.close (tie.spec overflow_add-i bounds-s-i overflow_add-result overflow_add-result-else-s-i-eq117 returns-then-s-i-eq117 returns-else-s-i-eq117)
