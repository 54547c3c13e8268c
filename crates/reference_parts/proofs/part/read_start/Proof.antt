-- `reference_parts::part::read_start` meets its contract: the start by blocks, with eight bytes more where they are of the part.
-- Assumes nothing.
use Prim.Native.Nat.{◌+◌, ◌≤◌}
use mathlib.Core.Path.{sym, ◌∙◌}
use native.Mathlib.Omega.{arith}
use borrow.Author.Rules.{rules}
use borrow.Author.Tests.{not-false}
use lib.ListN.{length}
use Rattle.text_strings.proofs.Cursors.{inside_within}
use Rattle.reference_parts.proofs.Blocks.{within, block_more}
use Rattle.reference_parts.proofs.part.read_start.Statement.{statement}
use Rattle.reference_parts.proofs.part.read_start.Tie as tie

undivided-requires : tie.Need-undivided-requires
undivided-requires c κs = omega (arith, inside_within _ _ c.read_blocks-begun.ensures.inside)

returns-then-not-undivided : tie.Need-returns-then-not-undivided
returns-then-not-undivided c = c.read_blocks-begun.ensures

-- the eight bytes lie within the text
eight_within : (c : tie.Else-not-undivided) → let b = c.before.before in b.read_blocks-begun.result.next + 8 ≤ length b.args.s.now
eight_within c =
    let b = c.before.before in
    let a = b.args in
    let r = b.read_blocks-begun in
    let w = inside_within a.s.now r.result.next r.ensures.inside in
    within 8 a.s.now a.i r.result.next r.result.hex r.ensures (sym c.undivided.ensures ∙ not-false _ c.if-not-undivided.false-raw)
    (omega arith)

all_hex-requires : tie.Need-all_hex-requires
all_hex-requires c κs = eight_within c

returns : tie.Need-returns
returns c =
    let e = c.before.before in
    let b = e.before.before in
    let a = b.args in
    let r = b.read_blocks-begun in
    block_more 8 a.s.now a.i r.result.next r.result.hex r.ensures (sym e.undivided.ensures ∙ not-false _ e.if-not-undivided.false-raw) _
    c.all_hex.ensures

pub read_start_spec : {M : Type 1} → statement M
read_start_spec = tie.close (tie.spec (λ c κs. search rules) undivided-requires returns-then-not-undivided all_hex-requires
    (λ c. omega (arith, eight_within c.before.before, c.well_formed)) returns)
