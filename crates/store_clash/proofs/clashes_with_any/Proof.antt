-- `store_clash::clashes_with_any` meets its contract: the image's own names are asked first, and then those of its layers.
use mathlib.Core.Path.{sym, ◌∙◌}
use Rattle.store_conflict.proofs.Lent.{space_kept}
use Rattle.store_conflict.proofs.Walking.{clash_shared, clash_layers}
use borrow.Author.Rules.{rules}
use Rattle.store_clash.proofs.clashes_with_any.Statement.{statement}
use Rattle.store_clash.proofs.clashes_with_any.Tie as tie

-- where the image's own names were looked up
abbrev start : tie.After-any_clashes_with → tie.Start
start k = k.before.before.before.before.before.before.before.before.before.before.before.before

-- where the answer to that is known
abbrev own : tie.Else-any_clashes_with → tie.After-any_clashes_with
own c = c.before.before.before.before.before.before.before.before.before

returns-then-any_clashes_with : tie.Need-returns-then-any_clashes_with
returns-then-any_clashes_with c =
    let k = c.before.before.before.before.before.before.before.before.before in
    let a = (start k).args in
    sym (clash_shared a.b.now a.v 0 a.a a.signer.now a.s.now (sym k.any_clashes_with.ensures ∙ c.if-any_clashes_with.true))

any_clashes_with-requires-2 : tie.Need-any_clashes_with-requires-2
any_clashes_with-requires-2 c κs =
    let k = own c.before.before.before.before in
    let p = (start k).requires in
    let n = k.any_clashes_with.auto in
    (p.0, p.1, space_kept p.2 _ _ _ _ n.sorted n.spare n.heads n.keys)

returns : tie.Need-returns
returns c =
    let f = c.before.before.before.before.before.before.before.before in
    let e = f.before.before.before.before.before in
    let k = own e in
    let a = (start k).args in
    let none = sym k.any_clashes_with.ensures ∙ e.if-any_clashes_with.false in
    f.any_clashes_with-2.ensures ∙ sym (clash_layers a.b.now a.v 0 a.a a.signer.now a.s.now none)

pub clashes_with_any_spec : {M : Type 1} → statement M
clashes_with_any_spec =
    tie.close (tie.spec (λ c κs. search rules) (λ c. search rules) (λ c. search rules) (λ c. search rules) (λ c. search rules)
    returns-then-any_clashes_with any_clashes_with-requires-2 (λ c. search rules) (λ c. search rules) (λ c. search rules) (λ c. search rules) returns)
