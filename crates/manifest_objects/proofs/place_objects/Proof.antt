-- `manifest_objects::place_objects` meets its contract: the keys of `contents` are placed. Assumes nothing.
use borrow.Author.Rules.{rules}
use Prim.Native.Nat.{◌-◌}
use mathlib.Core.Path.{refl}
use native.Mathlib.Omega.{arith}
use Rattle.manifest_objects.proofs.FoundObjects.{part_end, placeable_objects, objects_placed}
use Rattle.manifest_objects.proofs.place_objects.Statement.{statement}
use Rattle.manifest_objects.proofs.place_objects.Tie as tie

place-requires : tie.Need-place-requires
place-requires c κs =
    let a = c.before.before.before.before in
    placeable_objects _ _ a.requires.2 _ _ a.requires.3
    (omega (arith, part_end a.args.b.now a.args.start a.args.end a.requires.0 a.requires.1, a.requires.1))

returns : tie.Need-returns
returns c =
    let f = c.before.before in
    let a = f.before.before.before.before.before in
    let e = f.place.ensures in
    let w = objects_placed _ _ a.requires.2 e.2 _ (a.args.end - a.args.start) refl in
    (e.0, e.1, w.0, w.1)

pub place_objects_spec : {M : Type 1} → statement M
place_objects_spec =
    tie.close (tie.spec (λ c. search rules) (λ c. search rules) (λ c. search rules) place-requires (λ c. search rules) returns)
