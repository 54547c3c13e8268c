-- `text_index::count_before` meets its contract. Assumes nothing.
use Rattle.text_index.proofs.Searching.{count_started}
use Rattle.text_index.proofs.count_before.Statement.{statement}
use Rattle.text_index.proofs.count_before.Tie as tie

count_between-requires : tie.Need-count_between-requires
count_between-requires c κs = (c.requires.0, c.requires.1, count_started _ _ _ _ _ _)

returns : tie.Need-returns
returns c = c.count_between.ensures

pub count_before_spec : {M : Type 1} → statement M
count_before_spec =
    tie.close (tie.spec count_between-requires returns)
