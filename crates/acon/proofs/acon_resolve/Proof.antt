-- `acon::acon_resolve` meets its contract. Assumes nothing.
use native.Mathlib.Omega.{arith}
use lib.ListN.{length}
use Rattle.lookup.specs.Resolve.{resolve_value, resolve_bytes}
use Rattle.lookup.proofs.Bounds.{resolve_number_small, resolve_value_small}
use mathlib.Core.Path.{refl}
use Rattle.acon.proofs.Packing.{packed_same}
use borrow.Author.Rules.{rules}
use Rattle.acon.proofs.acon_resolve.Statement.{statement}
use Rattle.acon.proofs.acon_resolve.Tie as tie

pack-requires : tie.Need-pack-requires
unfolding resolve_value
pack-requires c κs =
    let a = c.args in
    let e = c.resolve-a.ensures in
    let s = a.store.now in
    let l = a.layers.now in
    let n = length a.out.now in
    omega (arith, e.number, e.value, resolve_number_small s a.used l a.image n, resolve_value_small s a.used l a.image n)

returns : tie.Need-returns
unfolding resolve_value resolve_bytes
returns c = let e = c.resolve-a.ensures in (packed_same c.pack.ensures e.number e.value refl, e.bytes)

pub acon_resolve_spec : {M : Type 1} → statement M
acon_resolve_spec =
    tie.close (tie.spec (λ c κs. search rules) pack-requires (λ c. search rules) returns)
