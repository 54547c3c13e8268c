-- `text_utf8::check` meets its contract. The loop's invariant: the verdict on what is left of the text, counted from its place, is the
-- verdict on the whole. The measure is how much is left. Assumes nothing.
use Prim.Native.Nat.{◌+◌, ◌-◌, ◌≤◌}
use native.Mathlib.Omega.{arith}
use mathlib.Core.Path.{◌≡◌, refl, sym, ◌∙◌}
use lib.ListN.{length}
use Rattle.text_utf8.specs.Utf8.{verdict}
use Rattle.text_utf8.proofs.Chars.{verdict_at, Passed, bad_at, char_at, ascii_at, end_at}
use Rattle.text_utf8.proofs.Ascii.{ascii_run}
use Rattle.text_utf8.proofs.check.Statement.{statement}
use Rattle.text_utf8.proofs.check.Tie as tie

abbrev invariant-loop : tie.invariant-loop-at
invariant-loop text at₀ at = (at ≤ length text) × (verdict_at text at ≡ verdict text)

abbrev decreases-loop : tie.decreases-loop-at
decreases-loop text at₀ at = length text - at

loop-at-init : tie.Need-loop-at-init invariant-loop decreases-loop
unfolding verdict
loop-at-init c = (omega arith, refl)

loop-at-smaller-then-at-eq0 : tie.Need-loop-at-smaller-then-at-eq0 invariant-loop decreases-loop
loop-at-smaller-then-at-eq0 c = omega (arith, c.ascii_run-at.ensures.up)

loop-at-preserved-then-at-eq0 : tie.Need-loop-at-preserved-then-at-eq0 invariant-loop decreases-loop
loop-at-preserved-then-at-eq0 c =
    let l = c.loop-at in
    let s = c.args.text.now in
    let e = c.ascii_run-at.ensures in
    (e.fits, sym (ascii_run s (l.at + 1) c.ascii_run-at.result e) ∙ sym (ascii_at s l.at (omega arith) (omega arith)) ∙ l.invariant.1)

loop-at-preserved-else-at-eq0 : tie.Need-loop-at-preserved-else-at-eq0 invariant-loop decreases-loop
loop-at-preserved-else-at-eq0 c =
    let l = c.loop-at in
    let s = c.args.text.now in
    (omega arith, sym (ascii_at s l.at (omega arith) (omega arith)) ∙ l.invariant.1)

returns-then-n-eq0 : tie.Need-returns-then-n-eq0 invariant-loop decreases-loop
returns-then-n-eq0 c =
    let l = c.loop-at in
    let s = c.args.text.now in
    sym (bad_at s l.at (omega arith) (sym c.char_len-n.ensures ∙ c.if-n-eq0.true)) ∙ l.invariant.1

-- past a character of the length that `char_len` found
passed : (c : tie.Else-n-eq0 invariant-loop decreases-loop)
    → Passed c.args.text.now c.loop-at.at
    c.char_len-n.result
passed c = char_at _ _ (omega arith) c.char_len-n.result c.char_len-n.ensures c.if-n-eq0.false

overflow_add-at-else-text-at-lt128 : tie.Need-overflow_add-at-else-text-at-lt128 invariant-loop decreases-loop
overflow_add-at-else-text-at-lt128 c = omega (arith, (passed c).fits)

loop-at-smaller : tie.Need-loop-at-smaller invariant-loop decreases-loop
loop-at-smaller c = omega (arith, (passed c).fits)

loop-at-preserved : tie.Need-loop-at-preserved invariant-loop decreases-loop
loop-at-preserved c = ((passed c).fits, sym (passed c).same ∙ c.loop-at.invariant.1)

returns : tie.Need-returns invariant-loop decreases-loop
returns c = sym (end_at c.args.text.now c.loop-at.at (omega arith)) ∙ c.loop-at.invariant.1

pub check_spec : {M : Type 1} → statement M
check_spec =
    tie.close (tie.spec invariant-loop decreases-loop loop-at-init (λ c. omega arith) (λ c. omega arith) (λ c κs. omega arith) loop-at-smaller-then-at-eq0 loop-at-preserved-then-at-eq0 (λ c. omega arith)
    loop-at-preserved-else-at-eq0 (λ c κs. omega arith) returns-then-n-eq0 overflow_add-at-else-text-at-lt128 loop-at-smaller loop-at-preserved returns)
