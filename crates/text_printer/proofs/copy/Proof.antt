-- `text_printer::copy` meets its contract. The loop's invariant: the first i bytes of the part are written. The measure is how many are
-- left. Assumes nothing.
use borrow.Author.Rules.{rules}
use Prim.Native.Nat.{ℕ, ◌≤◌, ◌-◌}
use mathlib.Core.Path.{◌≡◌, subst}
use native.Mathlib.Omega.{arith}
use lib.ListN.{take, drop}
use Rattle.laws.specs.Writes.{Writes}
use Rattle.laws.proofs.Writing.{same_length, copied_byte}
use Rattle.text_printer.proofs.copy.Statement.{statement}
use Rattle.text_printer.proofs.copy.Tie as tie

abbrev invariant-loop : tie.invariant-loop-i
invariant-loop s from to out₀ n i₀ out i = (i ≤ n) × Writes out₀ out (take i (drop from s))

abbrev decreases-loop : tie.decreases-loop-i
decreases-loop s from to out₀ n i₀ out i = n - i

bounds-out-i : tie.Need-bounds-out-i invariant-loop decreases-loop
bounds-out-i c = omega (arith, same_length c.loop-i.invariant.1)

loop-i-preserved : tie.Need-loop-i-preserved invariant-loop decreases-loop
loop-i-preserved c =
    let a = c.args in
    (search rules, copied_byte a.s.now a.from c.loop-i.i (omega arith) (omega arith) c.loop-i.invariant.1)

shape_of-out : tie.Need-shape_of-out invariant-loop decreases-loop
shape_of-out c = same_length c.loop-i.invariant.1

returns : tie.Need-returns invariant-loop decreases-loop
returns c =
    let a = c.args in
    let e : c.loop-i.i ≡ a.to - a.from = omega arith in
    (search rules, subst (λ (n : ℕ). Writes a.out.now c.loop-i.out (take n (drop a.from a.s.now))) e c.loop-i.invariant.1)

pub copy_spec : {M : Type 1} → statement M
copy_spec =
    tie.close (tie.spec invariant-loop decreases-loop (λ c. search rules) (λ c. search rules) (λ c. search rules) (λ c. search rules) bounds-out-i
    (λ c. search rules) (λ c. search rules) loop-i-preserved shape_of-out returns)
