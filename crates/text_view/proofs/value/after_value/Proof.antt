-- `text_view::value::after_value` meets its contract: spaces, and a comma or the end mark. Assumes nothing.
use borrow.Author.Rules.{rules}
use Rattle.text_view.proofs.Steps.{item_taken, item_next, some_next, gives_comma, gives_last}
use Rattle.text_view.proofs.value.after_value.Statement.{statement}
use Rattle.text_view.proofs.value.after_value.Tie as tie

bounds-s-next : tie.Need-bounds-s-next
bounds-s-next c =
    let d = c.before in
    some_next _ _ d.requires _ d.skip_spaces-next.ensures.0 d.skip_spaces-next.ensures.1.1

returns-then-s-next-eq44 : tie.Need-returns-then-s-next-eq44
returns-then-s-next-eq44 c =
    let d = c.before.before in
    let e = d.skip_spaces-next.ensures in
    λ at depth object ts rest p v h place ends.
    gives_comma _ _ _ _ _ _ at ts rest (item_next _ at depth object p v place _ ends _ e.1.1 e.0 ts rest h).1 c.if-s-next-eq44.true
    (item_taken _ at depth object p v place _ ends _ e.1.1 ts rest h)

returns : tie.Need-returns
returns c =
    let d = c.before.before in
    let e = d.skip_spaces-next.ensures in
    λ at depth object ts rest p v h place ends.
    gives_last _ _ _ _ _ _ at ts rest (item_next _ at depth object p v place _ ends _ e.1.1 e.0 ts rest h).1 c.if-s-next-eq44.false
    (item_taken _ at depth object p v place _ ends _ e.1.1 ts rest h)

pub after_value_spec : {M : Type 1} → statement M
after_value_spec =
    tie.close (tie.spec (λ c κs. search rules) bounds-s-next (λ c. search rules) returns-then-s-next-eq44 returns)
