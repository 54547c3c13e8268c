-- `acon::acon_load` meets its contract. Assumes nothing.
use native.Mathlib.Omega.{arith}
use Rattle.text.proofs.Places.{place_small}
use Rattle.store.proofs.Bounds.{load_number_small, load_used_small}
use Rattle.acon.proofs.Packing.{packed_same}
use borrow.Author.Rules.{rules}
use Rattle.acon.proofs.acon_load.Statement.{statement}
use Rattle.acon.proofs.acon_load.Tie as tie

pack-requires : tie.Need-pack-requires
pack-requires c κs =
    let a = c.args in
    let e = c.load-a.ensures in
    let i = a.id.now in
    let m = a.manifest.now in
    let b = a.buffer.now in
    omega (
      arith,
      e.0,
      e.1.0,
      e.1.1.1,
      place_small m,
      load_number_small i m b a.used,
      load_used_small i m b a.used (λ k. (c.slice_known-1.given k).fits),
    )

returns : tie.Need-returns
returns c = let e = c.load-a.ensures in (packed_same c.pack.ensures e.0 e.1.0 e.1.1.1, e.1.1.0)

pub acon_load_spec : {M : Type 1} → statement M
acon_load_spec =
    tie.close (tie.spec (λ c κs. search rules) pack-requires (λ c. search rules) returns)
