use native.Mathlib.Omega.{arith}
use lib.ListN.{length}
use Rattle.text.proofs.Outcome.{number_small, length_small}
use Rattle.text.proofs.Places.{place_small}
use Rattle.acon.proofs.Packing.{packed_same}
use borrow.Author.Rules.{rules}
use Rattle.acon.proofs.acon_canonical.Statement.{statement}
use Rattle.acon.proofs.acon_canonical.Tie as tie

pack-requires : tie.Need-pack-requires
pack-requires c κs =
    let a = c.args in
    let e = c.canonical-a.ensures in
    omega (
      arith,
      e.0,
      e.1.0,
      e.1.1.1,
      number_small a.text.now (length a.out.now),
      length_small a.text.now (length a.out.now),
      place_small a.text.now,
    )

returns : tie.Need-returns
returns c = let e = c.canonical-a.ensures in (packed_same c.pack.ensures e.0 e.1.0 e.1.1.1, e.1.1.0)

pub acon_canonical_spec : {M : Type 1} → statement M
acon_canonical_spec =
    tie.close (tie.spec (λ c κs. search rules) pack-requires (λ c. search rules) returns)
