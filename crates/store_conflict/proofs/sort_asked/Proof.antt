-- `store_conflict::sort_asked` meets its contract: the names are sorted, and then their heads are taken.
use mathlib.Core.Path.{sym}
use native.Mathlib.Omega.{arith}
use lib.Seq.{length-take-le}
use Rattle.store_conflict.proofs.Walking.{asked_names}
use borrow.Author.Rules.{rules}
use Rattle.store_conflict.proofs.sort_asked.Statement.{statement}
use Rattle.store_conflict.proofs.sort_asked.Tie as tie

sort_names-n-requires : tie.Need-sort_names-n-requires
sort_names-n-requires c κs =
    let p = c.requires in
    (p.0, p.1.names, p.1.keys_space)

slice_bounds-fill_heads-end-2 : tie.Need-slice_bounds-fill_heads-end-2
slice_bounds-fill_heads-end-2 c = sym (length-take-le _ _ c.sort_names-n.ensures.0)

fill_heads-requires : tie.Need-fill_heads-requires
fill_heads-requires c κs =
    let f = c.before.before.before.before.before.before.before.before in
    let r = c.sort_names-n in
    let l = length-take-le r.result r.new.sorted r.ensures.0 in
    let a = f.before.before.before.before.before.before.before.before in
    (asked_names a.args.which _ _ _ r.ensures.1, omega (arith, l, r.ensures.0, r.auto.sorted, a.requires.1.heads_space))

returns : tie.Need-returns
returns c =
    let r = c.sort_names-n.ensures in
    (r.0, r.1, c.fill_heads.ensures)

pub sort_asked_spec : {M : Type 1} → statement M
sort_asked_spec =
    tie.close (tie.spec sort_names-n-requires (λ c. search rules) slice_bounds-fill_heads-end-2 fill_heads-requires (λ c. search rules)
    (λ c. search rules) (λ c. search rules) (λ c. search rules) returns)
