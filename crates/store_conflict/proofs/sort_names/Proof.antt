-- `store_conflict::sort_names` meets its contract: each kind of aliases is sorted by its own function.
use Rattle.store_conflict.proofs.Walking.{own_asked, layers_asked}
use borrow.Author.Rules.{rules}
use Rattle.store_conflict.proofs.sort_names.Statement.{statement}
use Rattle.store_conflict.proofs.sort_names.Tie as tie

returns-in-Own : tie.Need-returns-in-Own
returns-in-Own c =
    let f = c.before.before.before.before in
    let e = f.sort_self.ensures in
    (e.0, own_asked _ f.in-Own.is e.1)

returns-in-Layers : tie.Need-returns-in-Layers
returns-in-Layers c =
    let f = c.before.before.before.before.before.before in
    let e = f.sort_contents.ensures in
    (e.0, layers_asked _ f.in-Layers.is e.1)

pub sort_names_spec : {M : Type 1} → statement M
sort_names_spec =
    tie.close (tie.spec (λ c. search rules) (λ c κs. search rules) (λ c. search rules) (λ c κs. search rules) (λ c. search rules) (λ c. search rules)
    returns-in-Own (λ c. search rules) (λ c. search rules) (λ c. search rules) returns-in-Layers)
