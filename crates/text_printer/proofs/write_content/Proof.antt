-- `text_printer::write_content` meets its contract. The loop's invariant: what is written, and the canonical form of what is left of the
-- content, are the canonical form of the whole. The measure is how much of the text is left. Assumes nothing.
use borrow.Author.Rules.{rules}
use Prim.Native.Nat.{◌-◌}
use native.Mathlib.Omega.{arith}
use lib.ListN.{length, length-set}
use Rattle.laws.proofs.Writing as Written
use Rattle.text_printer.proofs.Contents.{ContentWritten, started, within, escape_here, byte_space, closed, run_within, run_space, run_fits, after_run}
use Rattle.text_printer.proofs.Contents.{char_space}
use Rattle.text_printer.proofs.Contents.{char_fits, after_escape}
use Rattle.text_printer.proofs.write_content.Statement.{statement}
use Rattle.text_printer.proofs.write_content.Tie as tie

abbrev invariant-loop : tie.invariant-loop-out
invariant-loop s i out₀ k₀ n₀ out k n = ContentWritten s i out₀ out k n

abbrev decreases-loop : tie.decreases-loop-out
decreases-loop s i out₀ k₀ n₀ out k n = length s - k

loop-out-init : tie.Need-loop-out-init invariant-loop decreases-loop
loop-out-init c = started _ _ _ c.requires.0

bounds-s-k : tie.Need-bounds-s-k invariant-loop decreases-loop
bounds-s-k c = within c.loop-out.invariant

bounds-out-n : tie.Need-bounds-out-n invariant-loop decreases-loop
bounds-out-n c = byte_space c.loop-out.invariant c.requires.1

overflow_add-result : tie.Need-overflow_add-result invariant-loop decreases-loop
overflow_add-result c = omega (arith, byte_space c.loop-out.invariant c.requires.1)

shape_of-out-then-b-eq34 : tie.Need-shape_of-out-then-b-eq34 invariant-loop decreases-loop
shape_of-out-then-b-eq34 c = simp length-set (Written.same_length c.loop-out.invariant.written)

returns-then-b-eq34 : tie.Need-returns-then-b-eq34 invariant-loop decreases-loop
returns-then-b-eq34 c = closed c.loop-out.invariant c.requires.1 c.if-b-eq34.true

read_escape-e-requires : tie.Need-read_escape-e-requires invariant-loop decreases-loop
read_escape-e-requires c κs = escape_here c.loop-out.invariant c.if-b-eq-ESCAPE.true

slice_bounds-write_char-count : tie.Need-slice_bounds-write_char-count invariant-loop decreases-loop
slice_bounds-write_char-count c =
    omega (arith, byte_space c.loop-out.invariant c.requires.1)

slice_bounds-write_char-start : tie.Need-slice_bounds-write_char-start invariant-loop decreases-loop
slice_bounds-write_char-start c =
    omega (arith, byte_space c.loop-out.invariant c.requires.1)

write_char-n-requires : tie.Need-write_char-n-requires invariant-loop decreases-loop
write_char-n-requires c κs =
    let d = c.before.before.before.before.before in
    let e = c.read_escape-e.ensures in
    (e.small, char_fits d.loop-out.invariant d.requires.1 _ _ e)

overflow_add-n : tie.Need-overflow_add-n invariant-loop decreases-loop
overflow_add-n c =
    let d = c.before.before.before.before in
    let l = d.before.before.before.before in
    omega (arith, c.write_char-n.ensures.0, char_space l.loop-out.invariant l.requires.1 _ _ d.read_escape-e.ensures)

loop-out-smaller-then-b-eq-ESCAPE : tie.Need-loop-out-smaller-then-b-eq-ESCAPE invariant-loop decreases-loop
loop-out-smaller-then-b-eq-ESCAPE c =
    let d = c.before.before.before.before in
    let e = d.read_escape-e.ensures in
    omega (arith, e.later, e.within)

loop-out-preserved-then-b-eq-ESCAPE : tie.Need-loop-out-preserved-then-b-eq-ESCAPE invariant-loop decreases-loop
loop-out-preserved-then-b-eq-ESCAPE c =
    let d = c.before.before.before.before in
    let w = c.write_char-n.ensures in
    let l = d.before.before.before.before in
    after_escape l.loop-out.invariant l.requires.1 _ _ d.read_escape-e.ensures _ _ w.0 w.1

overflow_add-k : tie.Need-overflow_add-k invariant-loop decreases-loop
overflow_add-k c = omega (arith, within c.loop-out.invariant)

unmarked_end-end-requires : tie.Need-unmarked_end-end-requires invariant-loop decreases-loop
unmarked_end-end-requires c κs = omega (arith, within c.loop-out.invariant)

slice_bounds-copy-count : tie.Need-slice_bounds-copy-count invariant-loop decreases-loop
slice_bounds-copy-count c = let l = c.before.before.before.before in omega (arith, byte_space l.loop-out.invariant l.requires.1)

slice_bounds-copy-start : tie.Need-slice_bounds-copy-start invariant-loop decreases-loop
slice_bounds-copy-start c = let l = c.before.before.before.before in omega (arith, byte_space l.loop-out.invariant l.requires.1)

copy-n-requires : tie.Need-copy-n-requires invariant-loop decreases-loop
copy-n-requires c κs =
    let d = c.before in
    let l = d.before.before.before.before in
    let fits = l.requires.1 in
    let e = d.unmarked_end-end.ensures.run in
    let q = d.if-b-eq34.false in
    let b = d.if-b-eq-ESCAPE.false in
    (omega (arith, e.up), omega (arith, run_within l.loop-out.invariant fits q b _ e), run_fits l.loop-out.invariant fits q b _ e)

overflow_add-n-in-loop-out : tie.Need-overflow_add-n-in-loop-out invariant-loop decreases-loop
overflow_add-n-in-loop-out c =
    let d = c.before.before.before.before in
    let l = d.before.before.before.before in
    omega (
      arith,
      c.copy-n.ensures.0,
      run_space l.loop-out.invariant l.requires.1 d.if-b-eq34.false
          d.if-b-eq-ESCAPE.false _ d.unmarked_end-end.ensures.run,
    )

loop-out-smaller : tie.Need-loop-out-smaller invariant-loop decreases-loop
loop-out-smaller c =
    let d = c.before.before.before.before in
    let l = d.before.before.before.before in
    let e = d.unmarked_end-end.ensures.run in
    omega (arith, e.up, run_within l.loop-out.invariant l.requires.1 d.if-b-eq34.false d.if-b-eq-ESCAPE.false _ e)

loop-out-preserved : tie.Need-loop-out-preserved invariant-loop decreases-loop
loop-out-preserved c =
    let d = c.before.before.before.before in
    let l = d.before.before.before.before in
    let w = c.copy-n.ensures in
    after_run l.loop-out.invariant l.requires.1 d.if-b-eq34.false d.if-b-eq-ESCAPE.false _
    d.unmarked_end-end.ensures.run _ _ w.0 w.1

pub write_content_spec : {M : Type 1} → statement M
write_content_spec =
    tie.close (tie.spec invariant-loop decreases-loop loop-out-init bounds-s-k bounds-out-n overflow_add-result shape_of-out-then-b-eq34 returns-then-b-eq34 read_escape-e-requires
    slice_bounds-write_char-count slice_bounds-write_char-start (λ c. search rules) write_char-n-requires overflow_add-n loop-out-smaller-then-b-eq-ESCAPE loop-out-preserved-then-b-eq-ESCAPE overflow_add-k unmarked_end-end-requires slice_bounds-copy-count
    slice_bounds-copy-start (λ c. search rules) copy-n-requires overflow_add-n-in-loop-out loop-out-smaller loop-out-preserved)
