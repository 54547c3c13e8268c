-- `text_printer::write_string` meets its contract: the opening mark, and past it what `write_content` wrote. Assumes nothing.
use borrow.Author.Rules.{rules}
use Prim.Native.Nat.{◌+◌}
use native.Mathlib.Omega.{arith}
use lib.ListN.{length-set}
use Rattle.text_strings.proofs.Cursors.{inside_within}
use Rattle.text_strings.specs.InString.{content_from}
use Rattle.laws.proofs.Writing as Written
use Rattle.text_printer.proofs.Contents.{marks_fit, content_fits, string_written}
use Rattle.text_printer.proofs.write_string.Statement.{statement}
use Rattle.text_printer.proofs.write_string.Tie as tie

bounds-out-0 : tie.Need-bounds-out-0
bounds-out-0 c =
    let d = c.before.before in
    omega (arith, marks_fit (content_from d.args.s.now (d.args.at + 1)) d.args.out.now d.requires.1)

overflow_add-at : tie.Need-overflow_add-at
overflow_add-at c = omega (arith, inside_within _ _ c.requires.0)

slice_bounds-write_content-count : tie.Need-slice_bounds-write_content-count
slice_bounds-write_content-count c =
    let d = c.before.before in
    simp length-set (omega (arith, marks_fit (content_from d.args.s.now (d.args.at + 1)) d.args.out.now d.requires.1))

slice_bounds-write_content-start : tie.Need-slice_bounds-write_content-start
slice_bounds-write_content-start c =
    let d = c.before.before in
    simp length-set (omega (arith, marks_fit (content_from d.args.s.now (d.args.at + 1)) d.args.out.now d.requires.1))

write_content-requires : tie.Need-write_content-requires
write_content-requires c κs =
    let d = c.before.before.before in
    (d.requires.0, content_fits _ d.args.out.now d.requires.1)

overflow_add-result : tie.Need-overflow_add-result
overflow_add-result c =
    let d = c.before.before.before.before.before.before in
    omega (arith, c.write_content.ensures.0, marks_fit (content_from d.args.s.now (d.args.at + 1)) d.args.out.now d.requires.1)

shape_of-out : tie.Need-shape_of-out
shape_of-out c =
    let d = c.before.before.before.before.before.before in
    Written.same_length (string_written _ d.args.out.now d.requires.1 _ _ c.write_content.ensures).1

returns : tie.Need-returns
returns c = string_written _ _ c.requires.1 _ _ c.write_content.ensures

pub write_string_spec : {M : Type 1} → statement M
write_string_spec =
    tie.close (tie.spec bounds-out-0 overflow_add-at slice_bounds-write_content-count slice_bounds-write_content-start (λ c. search rules) write_content-requires
    overflow_add-result shape_of-out returns)
