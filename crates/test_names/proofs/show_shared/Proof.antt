-- `test_names::show_shared` meets its contract: the names that are looked up in are those that were sorted. Assumes nothing.
use mathlib.Core.Path.{sym}
use native.Mathlib.Omega.{arith}
use lib.Seq.{length-take-le}
use Rattle.manifest.proofs.Groups.{some_names}
use borrow.Author.Rules.{rules}
use Rattle.test_names.proofs.show_shared.Statement.{statement}
use Rattle.test_names.proofs.show_shared.Tie as tie

slice_bounds-fill_heads-end : tie.Need-slice_bounds-fill_heads-end
slice_bounds-fill_heads-end c = sym (length-take-le _ _ c.sort_self-n.ensures.0)

fill_heads-requires : tie.Need-fill_heads-requires
fill_heads-requires c κs =
    let r = c.sort_self-n in
    (some_names r.ensures.1, omega (arith, length-take-le r.result r.new.names r.ensures.0, r.ensures.0, r.auto.names))

slice_bounds-shares_self-end : tie.Need-slice_bounds-shares_self-end
slice_bounds-shares_self-end c = sym (length-take-le _ _ c.sort_self-n.ensures.0)

pub show_shared_spec : {M : Type 1} → statement M
show_shared_spec =
    tie.close (tie.spec (λ c. search rules) (λ c. search rules) (λ c κs. search rules) (λ c. search rules) slice_bounds-fill_heads-end
    (λ c. search rules) fill_heads-requires (λ c. search rules) slice_bounds-shares_self-end (λ c. search rules) (λ c κs. search rules)
    (λ c κs. search rules) (λ c. search rules))
