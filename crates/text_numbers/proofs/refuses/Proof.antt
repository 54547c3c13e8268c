-- `text_numbers::refuses` meets its contract: the tests that were made say which case of the definition holds.
-- Assumes nothing.
use borrow.Author.Tests.{not-true, not-false, ne_eqb}
use Rattle.text_json.specs.Content.{limit}
use Rattle.text_numbers.specs.Parts.{refused_parts}
use Rattle.text_numbers.proofs.refuses.Statement.{statement}
use Rattle.text_numbers.proofs.refuses.Tie as tie

returns-then-not-whole : tie.Need-returns-then-not-whole
unfolding refused_parts limit
returns-then-not-whole c = rw (not-true c.args.whole c.if-not-whole.true-raw)

returns-then-n-eq0 : tie.Need-returns-then-n-eq0
unfolding refused_parts limit
returns-then-n-eq0 c = rw (not-false c.args.whole c.if-not-whole.false-raw, c.if-negative.true, c.if-n-eq0.true)

returns-else-n-eq0 : tie.Need-returns-else-n-eq0
unfolding refused_parts limit
returns-else-n-eq0 c = rw (not-false c.args.whole c.if-not-whole.false-raw, c.if-negative.true, ne_eqb _ _ c.if-n-eq0.false)

returns-else-negative : tie.Need-returns-else-negative
unfolding refused_parts limit
returns-else-negative c = rw (not-false c.args.whole c.if-not-whole.false-raw, c.if-negative.false)

pub refuses_spec : {M : Type 1} → statement M
refuses_spec =
    tie.close (tie.spec returns-then-not-whole returns-then-n-eq0 returns-else-n-eq0 returns-else-negative)
