-- `store_write::copy` meets its contract. The loop's invariant: the first i bytes are written. The measure is how many are left.
use Prim.Native.Nat.{◌≤◌, ◌-◌}
use native.Mathlib.Nat.{zero-add}
use native.Mathlib.Omega.{arith}
use lib.ListN.{length, take}
use lib.Seq.{take_all}
use Rattle.laws.specs.Writes.{Writes}
use Rattle.laws.proofs.Writing
use Rattle.laws.proofs.Writing.{nothing_written, copied_byte}
use Rattle.store_write.proofs.copy.Statement.{statement}
use Rattle.store_write.proofs.copy.Tie as tie

abbrev invariant-loop : tie.invariant-loop-i
invariant-loop from out₀ i₀ out i = (i ≤ length from) × Writes out₀ out (take i from)

abbrev decreases-loop : tie.decreases-loop-i
decreases-loop from out₀ i₀ out i = length from - i

loop-i-init : tie.Need-loop-i-init invariant-loop decreases-loop
loop-i-init c = (omega arith, nothing_written _)

bounds-out-i : tie.Need-bounds-out-i invariant-loop decreases-loop
bounds-out-i c = omega (arith, Writing.same_length c.loop-i.invariant.1)

loop-i-preserved : tie.Need-loop-i-preserved invariant-loop decreases-loop
loop-i-preserved c =
    let l = c.before.before in
    (omega arith, rw zero-add at (copied_byte l.args.from.now 0 l.loop-i.i (omega arith) (omega arith) l.loop-i.invariant.1))

shape_of-out : tie.Need-shape_of-out invariant-loop decreases-loop
shape_of-out c = Writing.same_length c.loop-i.invariant.1

returns : tie.Need-returns invariant-loop decreases-loop
returns c =
    let l = c.before in
    let w = rw (take_all l.loop-i.i l.args.from.now (omega arith)) at l.loop-i.invariant.1 in
    w.all

pub copy_spec : {M : Type 1} → statement M
copy_spec =
    tie.close (tie.spec invariant-loop decreases-loop loop-i-init (λ c. omega arith) bounds-out-i (λ c. omega arith) (λ c. omega arith)
    loop-i-preserved shape_of-out returns)
