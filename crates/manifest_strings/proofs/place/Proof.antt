-- `manifest_strings::place` meets its contract: what was found is placed. Assumes nothing.
use borrow.Author.Rules.{rules}
use mathlib.Core.Path.{refl}
use native.Mathlib.Omega.{arith}
use Rattle.manifest_strings.proofs.Founds.{placeable, found_placed, none_placed}
use Rattle.manifest_strings.proofs.place.Statement.{statement}
use Rattle.manifest_strings.proofs.place.Tie as tie

place_items-requires : tie.Need-place_items-requires
place_items-requires c κs = let g = c.before in placeable g.requires _ g.in-Some.is

returns-in-None : tie.Need-returns-in-None
returns-in-None c = (omega arith, refl, none_placed c.requires c.in-None.is)

returns-in-Some : tie.Need-returns-in-Some
returns-in-Some c =
    let f = c.before.before in
    let g = f.before.before in
    let e = f.place_items.ensures in
    (e.0, e.1, found_placed g.requires _ g.in-Some.is e.2)

pub place_spec : {M : Type 1} → statement M
place_spec =
    tie.close (tie.spec (λ c. search rules) (λ c. search rules) place_items-requires returns-in-None (λ c. search rules) returns-in-Some)
