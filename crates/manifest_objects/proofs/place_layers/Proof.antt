-- `manifest_objects::place_layers` meets its contract: the strings of `layers` are placed. Assumes nothing.
use borrow.Author.Rules.{rules}
use Prim.Native.Nat.{◌-◌}
use mathlib.Core.Path.{refl}
use native.Mathlib.Omega.{arith}
use Rattle.manifest_objects.proofs.FoundObjects.{part_end, placeable_layers, layers_placed}
use Rattle.manifest_objects.proofs.place_layers.Statement.{statement}
use Rattle.manifest_objects.proofs.place_layers.Tie as tie

place-requires : tie.Need-place-requires
place-requires c κs =
    let a = c.before.before.before.before in
    placeable_layers _ _ a.requires.2 _ _ a.requires.3
    (omega (arith, part_end a.args.b.now a.args.start a.args.end a.requires.0 a.requires.1, a.requires.1))

returns : tie.Need-returns
returns c =
    let f = c.before.before in
    let a = f.before.before.before.before.before in
    let e = f.place.ensures in
    let w = layers_placed _ _ a.requires.2 e.2 _ (a.args.end - a.args.start) refl in
    (e.0, e.1, w.0, w.1)

pub place_layers_spec : {M : Type 1} → statement M
place_layers_spec =
    tie.close (tie.spec (λ c. search rules) (λ c. search rules) (λ c. search rules) place-requires (λ c. search rules) returns)
