-- `text_utf8::ascii_run` meets its contract. The loop's invariant: the bytes passed are ASCII. The measure is how much is left.
-- Assumes nothing.
use Prim.Native.Nat.{◌-◌}
use mathlib.Core.Path.{refl}
use native.Mathlib.Omega.{arith}
use borrow.Author.Tests.{not-false}
use lib.ListN.{length}
use Rattle.text_utf8.specs.Char.{Ascii}
use Rattle.laws.proofs.Spans.{span_none, span_both}
use Rattle.text_utf8.proofs.ascii_run.Statement.{statement}
use Rattle.text_utf8.proofs.ascii_run.Tie as tie

abbrev invariant-loop : tie.invariant-loop-i
invariant-loop text at i₀ i = Ascii text at i

abbrev decreases-loop : tie.decreases-loop-i
decreases-loop text at i₀ i = length text - i

loop-i-init : tie.Need-loop-i-init invariant-loop decreases-loop
loop-i-init c = span_none _ _ _ _ refl (omega arith)

returns-then-not-ascii_block : tie.Need-returns-then-not-ascii_block invariant-loop decreases-loop
returns-then-not-ascii_block c = c.loop-i.invariant

loop-i-preserved : tie.Need-loop-i-preserved invariant-loop decreases-loop
loop-i-preserved c =
    let l = c.loop-i in
    span_both _ _ _ l.i _ l.invariant (c.ascii_block.ensures (not-false _ c.if-not-ascii_block.false-raw))

returns : tie.Need-returns invariant-loop decreases-loop
returns c = c.loop-i.invariant

pub ascii_run_spec : {M : Type 1} → statement M
ascii_run_spec =
    tie.close (tie.spec invariant-loop decreases-loop loop-i-init (λ c. omega arith) (λ c κs. omega arith) returns-then-not-ascii_block (λ c. omega arith) (λ c. omega arith) loop-i-preserved
    returns)
