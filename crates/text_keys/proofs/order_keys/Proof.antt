-- `text_keys::order_keys` meets its contract: keys in rising order are left as they are, which is sorted. Assumes nothing.
use borrow.Author.Rules.{rules}
use mathlib.Core.Path.{sym, subst, ◌∙◌}
use Rattle.text_keys.specs.Keys.{KeysAt}
use Rattle.text_keys.proofs.Keys.{keys_sort}
use Rattle.text_keys.proofs.Orders.{rising_sorted}
use Rattle.text_keys.proofs.order_keys.Statement.{statement}
use Rattle.text_keys.proofs.order_keys.Tie as tie

returns-then-found : tie.Need-returns-then-found
returns-then-found c =
    let e = c.check_order-found.ensures in
    (sym (rising_sorted _ _ (sym e.0 ∙ c.if-found.true)), (e.1 c.if-found.true, e.0))

repeat_left-left-requires : tie.Need-repeat_left-left-requires
repeat_left-left-requires c κs =
    let a = c.before.before.before.before.before.before.before.before.before.before.before.before in
    subst (KeysAt a.args.s.now) (sym c.merge_sort.ensures) (keys_sort a.requires.0)

returns : tie.Need-returns
returns c =
    let e = c.merge_sort.ensures in
    (e, (c.repeat_left-left.ensures _ e, sym c.if-found.false ∙ c.check_order-found.ensures.0))

pub order_keys_spec : {M : Type 1} → statement M
order_keys_spec =
    tie.close (tie.spec (λ c κs. search rules) (λ c. search rules) returns-then-found (λ c κs. search rules) repeat_left-left-requires (λ c. search rules)
    (λ c. search rules) returns)
