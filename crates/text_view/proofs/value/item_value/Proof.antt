-- `text_view::value::item_value` meets its contract. Assumes nothing.
use borrow.Author.Rules.{rules}
use native.Mathlib.Omega.{arith}
use Rattle.text_view.proofs.Items.{item_within, element_value, key_inside, member_colon, member_value}
use Rattle.text_view.proofs.value.item_value.Statement.{statement}
use Rattle.text_view.proofs.value.item_value.Tie as tie

returns-then-not-object : tie.Need-returns-then-not-object
returns-then-not-object c = element_value _ _ _ c.if-not-object.true-raw

overflow_add-at : tie.Need-overflow_add-at
overflow_add-at c =
    let a = c.args in
    let p = c.requires in
    omega (arith, item_within a.s.now a.at a.object p.depth p.tree p.rest p.derives)

string_end-end-requires : tie.Need-string_end-end-requires
string_end-end-requires c κs = key_inside _ _ _ c.if-not-object.false-raw c.requires

skip_spaces-colon-requires : tie.Need-skip_spaces-colon-requires
skip_spaces-colon-requires c κs = c.string_end-end.ensures.within

skip_spaces-requires : tie.Need-skip_spaces-requires
skip_spaces-requires c κs =
    let a = c.before.before.before.before in
    omega (
      arith,
      member_colon a.args.s.now a.args.at _ c.string_end-end.ensures _ c.if-not-object.false-raw a.requires
          c.skip_spaces-colon.result c.skip_spaces-colon.ensures.1.1,
    )

returns : tie.Need-returns
returns c =
    let k = c.string_end-end.ensures in
    let l = k.later in
    member_value _ _ _ k _ c.if-not-object.false-raw c.skip_spaces-colon.result _ (omega arith) c.skip_spaces-colon.ensures.1.1
    c.skip_spaces.ensures.1.1

pub item_value_spec : {M : Type 1} → statement M
item_value_spec =
    tie.close (tie.spec returns-then-not-object overflow_add-at string_end-end-requires skip_spaces-colon-requires (λ c. search rules) skip_spaces-requires returns)
