-- `store_open::are_apart` meets its contract.
use borrow.Author.Rules.{rules}
use Rattle.store_open.proofs.Opening.{twice_apart, clash_apart}
use Rattle.store_open.proofs.are_apart.Statement.{statement}
use Rattle.store_open.proofs.are_apart.Tie as tie

id_twice-requires : tie.Need-id_twice-requires
id_twice-requires c κs = c.requires.0.fills

returns-then-id_twice : tie.Need-returns-then-id_twice
returns-then-id_twice c = twice_apart _ c.id_twice.ensures c.if-id_twice.true

any_clash-requires : tie.Need-any_clash-requires
any_clash-requires c κs = c.requires

returns : tie.Need-returns
returns c =
    let k = c.before.before.before.before.before.before.before.before.before.before in
    let e = k.before.before.before.before.before.before in
    clash_apart _ e.id_twice.ensures e.if-id_twice.false k.any_clash.ensures

pub are_apart_spec : {M : Type 1} → statement M
are_apart_spec =
    tie.close (tie.spec id_twice-requires returns-then-id_twice any_clash-requires (λ c. search rules) (λ c. search rules) (λ c. search rules)
    (λ c. search rules) (λ c. search rules) returns)
