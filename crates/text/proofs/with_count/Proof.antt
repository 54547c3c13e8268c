-- `text::with_count` meets its contract. Assumes nothing.
use borrow.Author.Rules.{rules}
use Rattle.text.proofs.Keys.{taken_count, refused_count}
use Rattle.text.proofs.with_count.Statement.{statement}
use Rattle.text.proofs.with_count.Tie as tie

returns-in-Ok : tie.Need-returns-in-Ok
returns-in-Ok c = taken_count _ _ _ _ c.in-Ok.is

returns-in-Err : tie.Need-returns-in-Err
returns-in-Err c = refused_count _ _ _ _ c.in-Err.is c.refusal.ensures

pub with_count_spec : {M : Type 1} → statement M
with_count_spec =
    tie.close (tie.spec (λ c. search rules) (λ c. search rules) (λ c κs. search rules) returns-in-Ok returns-in-Err)
