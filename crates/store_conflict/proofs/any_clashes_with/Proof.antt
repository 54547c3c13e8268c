-- `store_conflict::any_clashes_with` meets its contract: the names are sorted, and looked up in each image.
use mathlib.Core.Path.{sym}
use lib.Seq.{length-take-le}
use borrow.Author.Rules.{rules}
use Rattle.store_conflict.proofs.any_clashes_with.Statement.{statement}
use Rattle.store_conflict.proofs.any_clashes_with.Tie as tie

slice_bounds-any_clashes_in-end-2 : tie.Need-slice_bounds-any_clashes_in-end-2
slice_bounds-any_clashes_in-end-2 c =
    sym (length-take-le _ _ c.sort_asked-n.ensures.0)

any_clashes_in-requires : tie.Need-any_clashes_in-requires
any_clashes_in-requires c κs =
    let f = c.before.before.before.before.before.before.before.before.before.before.before in
    let r = c.sort_asked-n.ensures in
    (r.1, r.2, f.requires.1)

returns : tie.Need-returns
returns c = c.any_clashes_in.ensures

pub any_clashes_with_spec : {M : Type 1} → statement M
any_clashes_with_spec =
    tie.close (tie.spec (λ c κs. search rules) (λ c. search rules) slice_bounds-any_clashes_in-end-2 any_clashes_in-requires (λ c. search rules)
    (λ c. search rules) (λ c. search rules) (λ c. search rules) returns)
