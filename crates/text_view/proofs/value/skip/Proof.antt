-- `text_view::value::skip` meets its contract: an array or an object ends with its items, and another value by itself. Assumes nothing.
use native.Mathlib.Omega.{arith}
use Rattle.text_view.proofs.Steps.{readable_within, readable_nested, nested_ends, readable_scalar, scalar_ends}
use Rattle.text_view.proofs.value.skip.Statement.{statement}
use Rattle.text_view.proofs.value.skip.Tie as tie

bounds-s-at : tie.Need-bounds-s-at
bounds-s-at c = readable_within _ _ _ c.requires

overflow_add-at : tie.Need-overflow_add-at
overflow_add-at c =
    let a = c.before.before.before in
    omega (arith, readable_within a.args.s.now a.args.at a.args.depth a.requires)

skip_nested-requires : tie.Need-skip_nested-requires
skip_nested-requires c κs = readable_nested _ _ _ c.in-91.is c.requires

scalar_end-requires : tie.Need-scalar_end-requires
scalar_end-requires c κs = readable_scalar _ _ _ c.in_default.in_default-own.rest.1 c.requires

returns-in-91 : tie.Need-returns-in-91
returns-in-91 c = nested_ends _ _ _ c.in-91.is _ c.skip_nested.ensures

returns-in_default : tie.Need-returns-in_default
returns-in_default c = scalar_ends _ _ _ c.in_default.in_default-own.rest.1 _ c.scalar_end.ensures

pub skip_spec : {M : Type 1} → statement M
skip_spec =
    tie.close (tie.spec bounds-s-at overflow_add-at skip_nested-requires scalar_end-requires returns-in-91 returns-in_default)
