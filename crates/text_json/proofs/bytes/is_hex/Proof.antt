-- `text_json::bytes::is_hex` meets its contract: the first range that holds the byte decides.
-- Assumes nothing.
use borrow.Author.Rules.{rules}
use Rattle.text_json.specs.Bytes.{is_hex}
use Rattle.text_json.proofs.bytes.is_hex.Statement.{statement}
use Rattle.text_json.proofs.bytes.is_hex.Tie as tie

returns-then-between : tie.Need-returns-then-between
unfolding is_hex
returns-then-between c = rw (← c.between.ensures, c.if-between.true)

returns-then-between-2 : tie.Need-returns-then-between-2
unfolding is_hex
returns-then-between-2 c =
    rw (← c.between-else-between.ensures, ← c.between.ensures, c.if-between.false, c.if-between-2.true)

returns-else-between-2 : tie.Need-returns-else-between-2
unfolding is_hex
returns-else-between-2 c =
    let at2 = c.before.before in
    rw (← c.between-else-between-2.ensures, ← at2.between-else-between.ensures, ← at2.between.ensures, at2.if-between.false, c.if-between-2.false)

pub is_hex_spec : {M : Type 1} → statement M
is_hex_spec =
    tie.close (tie.spec (λ c κs. search rules) (λ c κs. search rules) (λ c κs. search rules) returns-then-between returns-then-between-2 returns-else-between-2)
