use Prim.Native.Nat.{ℕ, ◌≤◌, ◌-◌}
use mathlib.Core.Path.{◌≡◌, refl, sym, ap, ◌∙◌}
use native.Mathlib.Omega.{arith}
use lib.ListN.{length, take, length-set}
use lib.Seq.{take_all}
use Rattle.text_keys.proofs.Sorts.{copied_next}
use Rattle.text_keys.proofs.copy_keys.Statement.{statement}
use Rattle.text_keys.proofs.copy_keys.Tie as tie

abbrev invariant-loop : tie.invariant-loop-i
invariant-loop keys to₀ i₀ to i = (i ≤ length keys) × (length to ≡ length to₀) × (take i to ≡ take i keys)

abbrev decreases-loop : tie.decreases-loop-i
decreases-loop keys to₀ i₀ to i = length keys - i

loop-i-init : tie.Need-loop-i-init invariant-loop decreases-loop
loop-i-init c = (omega arith, refl, refl)

loop-i-preserved : tie.Need-loop-i-preserved invariant-loop decreases-loop
loop-i-preserved c =
    let l = c.loop-i in
    (omega arith, simp length-set l.invariant.1, copied_next c.args.keys.now l.to l.i (omega arith) (omega arith) l.invariant.2)

shape_of-to : tie.Need-shape_of-to invariant-loop decreases-loop
shape_of-to c = c.loop-i.invariant.1

returns : tie.Need-returns invariant-loop decreases-loop
returns c =
    let k = c.args.keys.now in
    let l = c.loop-i in
    let e : l.i ≡ length k = omega arith in
    ap (λ (n : ℕ). take n l.to) (sym e) ∙ l.invariant.2 ∙ take_all l.i k (omega arith)

pub copy_keys_spec : {M : Type 1} → statement M
copy_keys_spec =
    tie.close (tie.spec invariant-loop decreases-loop loop-i-init (λ c. omega arith) (λ c. omega arith) (λ c. omega arith) (λ c. omega arith) (λ c. omega arith)
    (λ c. omega arith) loop-i-preserved shape_of-to returns)
