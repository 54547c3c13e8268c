-- `text_printer::write_char` meets its contract: only U+0022 and U+005C have bytes that are escaped. Assumes nothing.
use borrow.Author.Rules.{rules}
use native.Mathlib.Omega.{arith}
use lib.ListN.{length-set}
use Rattle.text_printer.proofs.Escaped.{quotation_mark, backslash, pair_fits, pair_written, char_fits, char_written}
use Rattle.text_printer.proofs.write_char.Statement.{statement}
use Rattle.text_printer.proofs.write_char.Tie as tie

bounds-out-0 : tie.Need-bounds-out-0
bounds-out-0 c =
    let d = c.before.before in
    omega (arith, pair_fits d.args.c 0x22 d.args.out.now c.if-c-eq34.true quotation_mark d.requires.1)

bounds-out-1 : tie.Need-bounds-out-1
bounds-out-1 c =
    let d = c.before.before in
    simp length-set (omega (arith, pair_fits d.args.c 0x22 d.args.out.now c.if-c-eq34.true quotation_mark d.requires.1))

returns-then-c-eq34 : tie.Need-returns-then-c-eq34
returns-then-c-eq34 c = pair_written _ _ _ c.if-c-eq34.true quotation_mark c.requires.1

bounds-out-0-then-c-eq92 : tie.Need-bounds-out-0-then-c-eq92
bounds-out-0-then-c-eq92 c =
    let d = c.before.before.before in
    omega (arith, pair_fits d.args.c 0x5C d.args.out.now c.if-c-eq92.true backslash d.requires.1)

bounds-out-1-then-c-eq92 : tie.Need-bounds-out-1-then-c-eq92
bounds-out-1-then-c-eq92 c =
    let d = c.before.before.before in
    simp length-set (omega (arith, pair_fits d.args.c 0x5C d.args.out.now c.if-c-eq92.true backslash d.requires.1))

returns-then-c-eq92 : tie.Need-returns-then-c-eq92
returns-then-c-eq92 c = pair_written _ _ _ c.if-c-eq92.true backslash c.requires.1

copy-requires : tie.Need-copy-requires
copy-requires c κs =
    let d = c.before.before.before in
    char_fits _ _ _ d.if-c-eq34.false d.if-c-eq92.false d.encoded-x.ensures _ d.requires.1

returns : tie.Need-returns
returns c =
    let d = c.before.before.before.before.before.before in
    char_written _ _ _ d.if-c-eq34.false d.if-c-eq92.false d.encoded-x.ensures _ _ _ c.copy.ensures

pub write_char_spec : {M : Type 1} → statement M
write_char_spec =
    tie.close (tie.spec bounds-out-0 bounds-out-1 (λ c. search rules) returns-then-c-eq34 bounds-out-0-then-c-eq92 bounds-out-1-then-c-eq92 (λ c. search rules)
    returns-then-c-eq92 (λ c κs. search rules) (λ c. search rules) copy-requires (λ c. search rules) returns)
