-- `store::are_apart` meets its contract: of fewer than two images no two have an ID in common or clash.
use Prim.Native.Nat.{◌≤◌}
use native.Mathlib.Omega.{arith}
use lib.ListN.{length}
use Rattle.store_record.proofs.Walks.{records_size}
use Rattle.store.proofs.Numbering.{few_apart}
use Rattle.store.proofs.Steps.{clash_space}
use borrow.Author.Rules.{rules}
use Rattle.store.proofs.are_apart.Statement.{statement}
use Rattle.store.proofs.are_apart.Tie as tie

fits : (a : tie.Start) → a.args.v.count ≤ length a.args.v.records
fits a = omega (arith, records_size a.args.v a.well_formed.1.0, a.requires.0.fills.few)

returns-then-v-lt2 : tie.Need-returns-then-v-lt2
returns-then-v-lt2 c =
    let a = c.before.before.before.before.before in
    few_apart a.args.b.now a.args.v (fits a) c.if-v-lt2.true

are_apart-requires : tie.Need-are_apart-requires
are_apart-requires c κs =
    let p = c.requires in
    (p.0, omega arith, clash_space p.1 (omega arith) (omega arith))

returns : tie.Need-returns
returns c = c.are_apart.ensures

pub are_apart_spec : {M : Type 1} → statement M
are_apart_spec =
    tie.close (tie.spec returns-then-v-lt2 (λ c. search rules) (λ c. search rules) (λ c. search rules) are_apart-requires (λ c. search rules)
    (λ c. search rules) returns)
