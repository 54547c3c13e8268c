-- `text_view::value::scalar_end` meets its contract: a literal name has its length, and a string or a number ends where it is read to.
-- Assumes nothing.
use borrow.Author.Rules.{rules}
use native.Mathlib.Omega.{arith}
use Rattle.text_view.proofs.Scalars.{scalar_within, ends_four, ends_five, string_inside, ends_string, ends_number}
use Rattle.text_view.proofs.value.scalar_end.Statement.{statement}
use Rattle.text_view.proofs.value.scalar_end.Tie as tie

bounds-s-at : tie.Need-bounds-s-at
bounds-s-at c = scalar_within _ _ c.requires

overflow_add-result : tie.Need-overflow_add-result
overflow_add-result c = omega (arith, (ends_four _ _ c.requires c.in-110.is).within)

overflow_add-result-in-102 : tie.Need-overflow_add-result-in-102
overflow_add-result-in-102 c = omega (arith, (ends_five _ _ c.requires c.in-102.is).within)

overflow_add-at : tie.Need-overflow_add-at
overflow_add-at c = omega (arith, scalar_within _ _ c.requires)

string_end-requires : tie.Need-string_end-requires
string_end-requires c κs = string_inside _ _ c.requires c.in-34.is

number-requires : tie.Need-number-requires
number-requires c κs = omega (arith, scalar_within _ _ c.requires)

returns-in-110 : tie.Need-returns-in-110
returns-in-110 c = ends_four _ _ c.requires c.in-110.is

returns-in-102 : tie.Need-returns-in-102
returns-in-102 c = ends_five _ _ c.requires c.in-102.is

returns-in-34 : tie.Need-returns-in-34
returns-in-34 c = ends_string _ _ c.requires _ c.string_end.ensures c.in-34.is

returns-in_default : tie.Need-returns-in_default
returns-in_default c =
    let a = c.before.before.before.before.before in
    let n = c.in_default.in_default-own.rest in
    let h = c.number.ensures in
    rw c.token_end.ensures (ends_number _ _ a.requires _ h.0 n.0.0.1 n.0.1 n.1 h.1)

pub scalar_end_spec : {M : Type 1} → statement M
scalar_end_spec =
    tie.close (tie.spec bounds-s-at overflow_add-result overflow_add-result-in-102 overflow_add-at string_end-requires number-requires (λ c κs. search rules)
    returns-in-110 returns-in-102 returns-in-34 returns-in_default)
