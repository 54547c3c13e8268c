-- `text_chars::unmarked` meets its contract: its two tests are those of an unmarked byte, each made of all bytes.
-- Assumes nothing.
use borrow.Author.Rules.{rules}
use Rattle.text_chars.proofs.Plain.{every_unmarked}
use Rattle.text_chars.proofs.unmarked.Statement.{statement}
use Rattle.text_chars.proofs.unmarked.Tie as tie

returns : tie.Need-returns
returns c = rw (c.none_is.ensures, c.none_is-2.ensures) (every_unmarked _)

pub unmarked_spec : {M : Type 1} → statement M
unmarked_spec =
    tie.close (tie.spec (λ c κs. search rules) (λ c κs. search rules) returns)
