use Rattle.std.proofs.Common.{arith, ◌≡◌, ◌+◌}
use mathlib.Core.Bool.{and-eq-true_iff}
use borrow.Author.Tests.{leb-true}
use lib.Dec.{leb}
use lib.ListN.{get_or}
use Rattle.laws.proofs.Spans.{span_none, span_next}
use Rattle.text_utf8.proofs.ascii_block.Goals as goal

pub loop-n-init : goal.loop-n-init
loop-n-init c = λ e. span_none _ _ _ _ (omega arith) (omega arith)

pub loop-n-preserved : goal.loop-n-preserved
loop-n-preserved c = λ e.
    let s = c.args.text.now in
    let j = c.args.at + c.loop-n.n in
    let p = (and-eq-true_iff c.loop-n.all (leb (get_or s j 0) 0x7F)).0 e in
    let b = leb-true (get_or s j 0) 0x7F p.1 in
    span_next _ s c.args.at j _ (c.loop-n.invariant p.0) (omega arith) (omega arith) (omega arith)

pub returns : goal.returns
returns c =
    let last : c.loop-n.n ≡ 16 = omega arith in
    rw last at c.loop-n.invariant
