-- `text_view::value::kind` meets its contract: the first byte of a value tells its kind. Assumes nothing.
use mathlib.Core.Path.{sym, ap, ◌∙◌}
use Rattle.text_view.proofs.Values.{kind_at, kind_number, within, kind_at_is}
use Rattle.text_view.proofs.value.kind.Statement.{statement}
use Rattle.text_view.proofs.value.kind.Tie as tie

bounds-s-at : tie.Need-bounds-s-at
bounds-s-at c = let p = c.requires in within _ _ p.depth p.value p.here

returns-in-110 : tie.Need-returns-in-110
unfolding kind_at
returns-in-110 c = λ d v p. ap kind_at (sym c.in-110.is) ∙ kind_at_is _ _ d v p

returns-in-116 : tie.Need-returns-in-116
unfolding kind_at
returns-in-116 c = λ d v p. ap kind_at (sym c.in-116.is) ∙ kind_at_is _ _ d v p

returns-in-102 : tie.Need-returns-in-102
unfolding kind_at
returns-in-102 c = λ d v p. ap kind_at (sym c.in-102.is) ∙ kind_at_is _ _ d v p

returns-in-34 : tie.Need-returns-in-34
unfolding kind_at
returns-in-34 c = λ d v p. ap kind_at (sym c.in-34.is) ∙ kind_at_is _ _ d v p

returns-in-91 : tie.Need-returns-in-91
unfolding kind_at
returns-in-91 c = λ d v p. ap kind_at (sym c.in-91.is) ∙ kind_at_is _ _ d v p

returns-in-123 : tie.Need-returns-in-123
unfolding kind_at
returns-in-123 c = λ d v p. ap kind_at (sym c.in-123.is) ∙ kind_at_is _ _ d v p

returns-in_default : tie.Need-returns-in_default
returns-in_default c =
    let n = c.in_default.in_default-own.rest in
    λ d v p. sym (kind_number _ n.0.0.0.0.0.1 n.0.0.0.0.1 n.0.0.0.1 n.0.0.1 n.0.1 n.1) ∙ kind_at_is _ _ d v p

pub kind_spec : {M : Type 1} → statement M
kind_spec =
    tie.close (tie.spec bounds-s-at returns-in-110 returns-in-116 returns-in-102 returns-in-34 returns-in-91 returns-in-123 returns-in_default)
