-- `acon::acon_judge` meets its contract. Assumes nothing.
use native.Mathlib.Omega.{arith}
use lib.ListN.{length}
use Rattle.policy.specs.Judge.{judge_pairs, judge_bytes}
use Rattle.policy.proofs.Admitting.{judge_number_small, judge_pairs_small}
use mathlib.Core.Path.{refl}
use Rattle.acon.proofs.Packing.{packed_same}
use borrow.Author.Rules.{rules}
use Rattle.acon.proofs.acon_judge.Statement.{statement}
use Rattle.acon.proofs.acon_judge.Tie as tie

pack-requires : tie.Need-pack-requires
unfolding judge_pairs
pack-requires c κs =
    let a = c.args in
    let e = c.judge-a.ensures in
    let s = a.store.now in
    let n = length a.report.now in
    omega (arith, e.number, e.pairs, judge_number_small s a.used n, judge_pairs_small s a.used n)

returns : tie.Need-returns
unfolding judge_pairs judge_bytes
returns c = let e = c.judge-a.ensures in (packed_same c.pack.ensures e.number e.pairs refl, e.bytes)

pub acon_judge_spec : {M : Type 1} → statement M
acon_judge_spec =
    tie.close (tie.spec (λ c κs. search rules) pack-requires (λ c. search rules) returns)
