-- `manifest_rules::place` meets its contract: the strings of `accepts` are placed. Assumes nothing.
use borrow.Author.Rules.{rules}
use native.Mathlib.Omega.{arith}
use Rattle.manifest_rules.proofs.RulePlaces.{placed_count, placeable_rules, rules_placed}
use Rattle.manifest_rules.proofs.place.Statement.{statement}
use Rattle.manifest_rules.proofs.place.Tie as tie

place-requires : tie.Need-place-requires
place-requires c κs = let a = c.before.before.before in placeable_rules _ _ a.requires.0 _ a.requires.1

returns : tie.Need-returns
returns c =
    let f = c.before.before in
    let a = f.before.before.before.before in
    let e = f.place.ensures in
    let x = rules_placed _ _ a.requires.0 e.2 in
    (placed_count _ _ _ _ x (omega (arith, e.0, e.1, a.requires.1)), e.0, e.1, x)

pub place_spec : {M : Type 1} → statement M
place_spec =
    tie.close (tie.spec place-requires (λ c. search rules) returns)
