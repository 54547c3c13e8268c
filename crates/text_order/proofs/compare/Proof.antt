-- `text_order::compare` meets its contract. The loop's invariant: k bytes are passed in both, and the order of what is left is the order of
-- the whole. The measure is how much of s is left.
-- Assumes nothing.
use Prim.Native.Nat.{ℕ, ◌+◌, ◌-◌}
use mathlib.Core.Path.{sym, subst₂, ◌∙◌}
use native.Mathlib.Omega.{arith}
use native.Mathlib.Nat.{add-zero, add_assoc}
use lib.ListN.{length}
use Rattle.text_strings.specs.InString.{InString}
use Rattle.text_strings.proofs.Cursors.{inside_within}
use Rattle.text_order.proofs.Alike.{Both, both_start, told, fits, past}
use Rattle.text_order.proofs.compare.Statement.{statement}
use Rattle.text_order.proofs.compare.Tie as tie

abbrev invariant-loop : tie.invariant-loop-k
invariant-loop s i t j k₀ k = Both (InString s i) (InString t j) s (i + k) t (j + k)

abbrev decreases-loop : tie.decreases-loop-k
decreases-loop s i t j k₀ k = length s - (i + k)

bounds-s-i : tie.Need-bounds-s-i invariant-loop decreases-loop
bounds-s-i c = inside_within _ _ c.requires.0

bounds-t-j : tie.Need-bounds-t-j invariant-loop decreases-loop
bounds-t-j c = inside_within _ _ c.requires.1

compare_first-requires : tie.Need-compare_first-requires invariant-loop decreases-loop
compare_first-requires c κs = c.requires

returns-then-s-i : tie.Need-returns-then-s-i invariant-loop decreases-loop
returns-then-s-i c = c.compare_first.ensures

loop-k-init : tie.Need-loop-k-init invariant-loop decreases-loop
loop-k-init c =
    let a = c.before.before.before.before.before in
    rw (add-zero a.args.i, add-zero a.args.j) (both_start _ _ _ _ a.requires.0 a.requires.1)

overflow_add-i : tie.Need-overflow_add-i invariant-loop decreases-loop
overflow_add-i c = omega (arith, inside_within _ _ c.loop-k.invariant.0)

overflow_add-j : tie.Need-overflow_add-j invariant-loop decreases-loop
overflow_add-j c = omega (arith, inside_within _ _ c.loop-k.invariant.1)

alike_run-requires : tie.Need-alike_run-requires invariant-loop decreases-loop
alike_run-requires c κs = (omega (arith, inside_within _ _ c.loop-k.invariant.0), omega (arith, inside_within _ _ c.loop-k.invariant.1))

overflow_add-k : tie.Need-overflow_add-k invariant-loop decreases-loop
overflow_add-k c =
    let l = c.loop-k in
    let a = c.args in
    let w = inside_within a.s.now (a.i + l.k) l.invariant.0 in
    let f = fits a.s.now a.t.now (a.i + l.k) (a.j + l.k) 16 (sym c.alike_run.ensures ∙ c.loop-k-test.true) (omega arith) in
    omega (arith, c.well_formed)

loop-k-smaller : tie.Need-loop-k-smaller invariant-loop decreases-loop
loop-k-smaller c = omega (arith, inside_within _ _ c.loop-k.invariant.0)

loop-k-preserved : tie.Need-loop-k-preserved invariant-loop decreases-loop
loop-k-preserved c =
    let l = c.loop-k in
    let a = c.args in
    subst₂ (λ (m n : ℕ). Both (InString a.s.now a.i) (InString a.t.now a.j) a.s.now m a.t.now n) (add_assoc a.i l.k 16)
    (add_assoc a.j l.k 16)
    (past a.s.now a.t.now (a.i + l.k) (a.j + l.k) 16 (sym c.alike_run.ensures
    ∙ c.loop-k-test.true) (InString a.s.now a.i) (InString a.t.now a.j) l.invariant)

overflow_add-i-2 : tie.Need-overflow_add-i-2 invariant-loop decreases-loop
overflow_add-i-2 c = omega (arith, inside_within _ _ c.loop-k.invariant.0)

overflow_add-j-2 : tie.Need-overflow_add-j-2 invariant-loop decreases-loop
overflow_add-j-2 c = omega (arith, inside_within _ _ c.loop-k.invariant.1)

compare_rest-requires : tie.Need-compare_rest-requires invariant-loop decreases-loop
compare_rest-requires c κs = let b = c.loop-k.invariant in (b.0, b.1)

returns : tie.Need-returns invariant-loop decreases-loop
returns c = told _ _ _ _ c.loop-k.invariant c.compare_rest.ensures

pub compare_spec : {M : Type 1} → statement M
compare_spec =
    tie.close (tie.spec invariant-loop decreases-loop bounds-s-i bounds-t-j compare_first-requires returns-then-s-i loop-k-init overflow_add-i
    overflow_add-j alike_run-requires overflow_add-k loop-k-smaller loop-k-preserved overflow_add-i-2 overflow_add-j-2 compare_rest-requires returns)
