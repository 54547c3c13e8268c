-- `text_index::move_up` meets its contract. The loop's invariant: the elements from place i on are moved. The measure is the place. Assumes nothing.
use Prim.Native.Nat.{◌≤◌}
use native.Mathlib.Omega.{arith}
use Rattle.text_index.specs.Index.{Moved}
use Rattle.text_index.proofs.Inserting.{moved_none, moved_more, moved_to}
use Rattle.text_index.proofs.move_up.Statement.{statement}
use Rattle.text_index.proofs.move_up.Tie as tie

abbrev invariant-loop : tie.invariant-loop-i
invariant-loop order₀ k n i₀ order i = (k ≤ i) × (i ≤ n) × Moved order₀ i n order

abbrev decreases-loop : tie.decreases-loop-i
decreases-loop order₀ k n i₀ order i = i

loop-i-init : tie.Need-loop-i-init invariant-loop decreases-loop
loop-i-init c = (c.requires.0, omega arith, moved_none _ _ c.requires.1)

loop-i-preserved : tie.Need-loop-i-preserved invariant-loop decreases-loop
loop-i-preserved c =
    let l = c.loop-i in
    (omega arith, omega arith, moved_more _ _ _ _ (omega arith) l.invariant.1 c.requires.1 l.invariant.2)

shape_of-order : tie.Need-shape_of-order invariant-loop decreases-loop
shape_of-order c = c.loop-i.invariant.2.length_kept

returns : tie.Need-returns invariant-loop decreases-loop
returns c =
    let l = c.loop-i in
    moved_to _ _ _ _ _ (omega arith) l.invariant.2

pub move_up_spec : {M : Type 1} → statement M
move_up_spec =
    tie.close (tie.spec invariant-loop decreases-loop loop-i-init (λ c. omega arith) (λ c. omega arith) (λ c. omega arith) (λ c. omega arith) (λ c. omega arith)
    (λ c. omega arith) (λ c. omega arith) loop-i-preserved shape_of-order returns)
