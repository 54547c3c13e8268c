-- `text_view::value::list_end` meets its contract: spaces, and the end mark. Assumes nothing.
use native.Mathlib.Omega.{arith}
use Rattle.text_view.proofs.Steps.{list_within, empty_within, empty_ends}
use Rattle.text_view.proofs.value.list_end.Statement.{statement}
use Rattle.text_view.proofs.value.list_end.Tie as tie

skip_spaces-requires : tie.Need-skip_spaces-requires
skip_spaces-requires c κs =
    let a = c.before in
    let n = a.requires in
    omega (arith, list_within a.args.s.now a.args.at n.depth n.object _ n.rest n.here)

overflow_add-result : tie.Need-overflow_add-result
overflow_add-result c =
    let e = c.skip_spaces.ensures in
    omega (arith, empty_within _ _ _ e.0 e.1.1 c.requires)

returns : tie.Need-returns
returns c = let e = c.skip_spaces.ensures in λ depth object rest h. empty_ends _ _ _ e.0 e.1.1 depth object rest h

pub list_end_spec : {M : Type 1} → statement M
list_end_spec =
    tie.close (tie.spec skip_spaces-requires overflow_add-result returns)
