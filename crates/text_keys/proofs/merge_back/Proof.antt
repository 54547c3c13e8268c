use Prim.Native.Nat.{◌-◌}
use mathlib.Core.Path.{sym, ◌∙◌}
use mathlib.Core.Logic.{inl, inr, ⊎_elim}
use native.Mathlib.Omega.{arith}
use borrow.Author.Tests.{not-true, not-false}
use lib.ListN.{length}
use Rattle.text_keys.proofs.Keys.{keys_get}
use Rattle.text_keys.proofs.Merges.{Merging, key_right, merging_start, merging_done, merging_left, merging_right}
use Rattle.text_keys.proofs.merge_back.Statement.{statement}
use Rattle.text_keys.proofs.merge_back.Tie as tie

abbrev invariant-loop : tie.invariant-loop-i
invariant-loop s left keys₀ i₀ j₀ at₀ keys i j at = Merging s left keys₀ keys i j at

abbrev decreases-loop : tie.decreases-loop-i
decreases-loop s left keys₀ i₀ j₀ at₀ keys i j at = length keys₀ - at

loop-i-init : tie.Need-loop-i-init invariant-loop decreases-loop
loop-i-init c = merging_start _ _ _ c.requires.2

check_pair-pair-requires : tie.Need-check_pair-pair-requires invariant-loop decreases-loop
check_pair-pair-requires c κs =
    let a = c.before.before.before.before.before.before.before.before in (
      keys_get a.requires.0 _ c.loop-i-test.true,
      key_right c.loop-i.invariant a.requires.1 c.if-j-keys.true,
    )

loop-i-preserved-then-not-pair : tie.Need-loop-i-preserved-then-not-pair invariant-loop decreases-loop
loop-i-preserved-then-not-pair c =
    let r = c.before.before.before in
    merging_right _ _ _ _ _ _ _ r.loop-i.invariant r.loop-i-test.true
    r.if-j-keys.true (sym r.check_pair-pair.ensures.1 ∙ not-true _ c.if-not-pair.true)

loop-i-preserved : tie.Need-loop-i-preserved invariant-loop decreases-loop
loop-i-preserved c = merging_left _ _ _ _ _ _ _ c.loop-i.invariant c.loop-i-test.true
    (⊎_elim (λ w. inr (w.if-j-keys.true, sym w.check_pair-pair.ensures.1 ∙ not-false _ w.if-not-pair.false)) (λ w. inl w.if-j-keys.false) c.if-j-keys.branch-raw)

shape_of-keys : tie.Need-shape_of-keys invariant-loop decreases-loop
shape_of-keys c = c.loop-i.invariant.size

returns : tie.Need-returns invariant-loop decreases-loop
returns c = merging_done _ _ _ _ _ _ _ c.loop-i-test.false c.loop-i.invariant

pub merge_back_spec : {M : Type 1} → statement M
merge_back_spec =
    tie.close (tie.spec invariant-loop decreases-loop loop-i-init (λ c. omega arith) (λ c. omega arith) (λ c. omega arith) (λ c. omega arith) check_pair-pair-requires
    (λ c. omega arith) (λ c. omega arith) (λ c. omega arith) (λ c. omega arith) (λ c. omega arith) (λ c. omega arith) (λ c. omega arith) loop-i-preserved-then-not-pair
    (λ c. omega arith) (λ c. omega arith) (λ c. omega arith) (λ c. omega arith) (λ c. omega arith) (λ c. omega arith) (λ c. omega arith) loop-i-preserved
    shape_of-keys returns)
