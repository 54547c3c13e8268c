-- `text_view::value::root` meets its contract. Assumes nothing.
use borrow.Author.Rules.{rules}
use Rattle.text_view.proofs.Values.{root_at}
use Rattle.text_view.proofs.value.root.Statement.{statement}
use Rattle.text_view.proofs.value.root.Tie as tie

returns : tie.Need-returns
returns c = let e = c.skip_spaces.ensures.1 in (λ d t p. root_at _ d _ t e.1 p, e)

pub root_spec : {M : Type 1} → statement M
root_spec =
    tie.close (tie.spec (λ c κs. search rules) returns)
