-- `test_names::show_conflict` meets its contract: a good manifest has fewer bytes than there is room for keys. Assumes nothing.
use mathlib.Core.Path.{sym}
use native.Mathlib.Omega.{arith}
use lib.Seq.{length-take-le}
use Rattle.manifest.proofs.Groups.{contents_names}
use Rattle.manifest.proofs.Opening.{opened_short}
use borrow.Author.Rules.{rules}
use Rattle.test_names.proofs.show_conflict.Statement.{statement}
use Rattle.test_names.proofs.show_conflict.Tie as tie

sort_contents-n-requires : tie.Need-sort_contents-n-requires
sort_contents-n-requires c κs =
    let a = c.before.before.before.before.before in
    (a.requires.0, record { space = omega arith; sorting = omega arith }, omega (arith, opened_short _ _ a.requires.0))

slice_bounds-fill_heads-end : tie.Need-slice_bounds-fill_heads-end
slice_bounds-fill_heads-end c = sym (length-take-le _ _ c.sort_contents-n.ensures.0)

fill_heads-requires : tie.Need-fill_heads-requires
fill_heads-requires c κs =
    let r = c.sort_contents-n in
    (contents_names r.ensures.1, omega (arith, length-take-le r.result r.new.names r.ensures.0, r.ensures.0, r.auto.names))

slice_bounds-conflicts-end : tie.Need-slice_bounds-conflicts-end
slice_bounds-conflicts-end c = sym (length-take-le _ _ c.sort_contents-n.ensures.0)

pub show_conflict_spec : {M : Type 1} → statement M
show_conflict_spec =
    tie.close (tie.spec (λ c. search rules) (λ c. search rules) (λ c. search rules) sort_contents-n-requires (λ c. search rules)
    slice_bounds-fill_heads-end (λ c. search rules) fill_heads-requires (λ c. search rules) slice_bounds-conflicts-end (λ c. search rules)
    (λ c. search rules) (λ c κs. search rules) (λ c κs. search rules) (λ c. search rules))
