-- The layer is the entry that is read, or it is among those that follow. Assumes nothing.
use mathlib.Core.Path.{sym, ◌∙◌}
use native.Mathlib.Omega.{arith}
use borrow.Author.Tests.{eqb-true, eqb-false}
use Rattle.reference_digests.proofs.Bytes.{by_bytes}
use Rattle.lookup_layers.specs.Layers.{LayerDigest}
use Rattle.lookup_layers.proofs.Walking.{all_left, not_left, no_break, other_here, found_here, not_here}
use Rattle.lookup_layers.proofs.has.Goals as goal

pub loop-at-init : goal.loop-at-init
loop-at-init c = all_left _ _ c.requires

pub returns-in_default : goal.returns-in_default
returns-in_default c =
    no_break c.args.s.now _ c.loop-at.at c.loop-at.invariant c.loop-at-test.true (rw c.in_default.is at c.read.ensures)

pub slice_bounds-equal-count : goal.slice_bounds-equal-count
slice_bounds-equal-count c = let h = rw c.in-Some.is at c.read.ensures in omega (arith, h.end)

pub slice_bounds-equal-start : goal.slice_bounds-equal-start
slice_bounds-equal-start c = let h = rw c.in-Some.is at c.read.ensures in omega (arith, h.end)

pub slice_bounds-equal-end : goal.slice_bounds-equal-end
slice_bounds-equal-end c = let h = rw c.in-Some.is at c.read.ensures in omega (arith, h.within)

pub returns-then-equal : goal.returns-then-equal
returns-then-equal c =
    let h = rw c.in-Some.is at c.read.ensures in
    let x : LayerDigest = record { algorithm = c.args.a; bytes = c.args.digest.now } in
    found_here c.args.s.now x c.loop-at.at c.loop-at.invariant _ _ _ h
    (eqb-true _ _ (sym (by_bytes _ _) ∙ sym c.eq.ensures ∙ c.if-eq.true)) c.equal.result c.equal.ensures c.if-equal.true

pub loop-at-smaller-else-equal : goal.loop-at-smaller-else-equal
loop-at-smaller-else-equal c =
    let h = rw c.in-Some.is at c.read.ensures in omega (arith, h.digest, h.end, c.loop-at-test.true)

pub loop-at-preserved-else-equal : goal.loop-at-preserved-else-equal
loop-at-preserved-else-equal c =
    let h = rw c.in-Some.is at c.read.ensures in
    let x : LayerDigest = record { algorithm = c.args.a; bytes = c.args.digest.now } in
    not_here c.args.s.now x c.loop-at.at c.loop-at.invariant _ _ _ h
    (eqb-true _ _ (sym (by_bytes _ _) ∙ sym c.eq.ensures ∙ c.if-eq.true)) c.equal.result c.equal.ensures c.if-equal.false

pub loop-at-smaller : goal.loop-at-smaller
loop-at-smaller c =
    let h = rw c.in-Some.is at c.read.ensures in omega (arith, h.digest, h.end, c.loop-at-test.true)

pub loop-at-preserved : goal.loop-at-preserved
loop-at-preserved c =
    let h = rw c.in-Some.is at c.read.ensures in
    let x : LayerDigest = record { algorithm = c.args.a; bytes = c.args.digest.now } in
    other_here c.args.s.now x c.loop-at.at c.loop-at.invariant _ _ _ h
    (eqb-false _ _ (sym (by_bytes _ _) ∙ sym c.eq.ensures ∙ c.if-eq.false))

pub returns : goal.returns
returns c =
    let x : LayerDigest = record { algorithm = c.args.a; bytes = c.args.digest.now } in
    not_left c.args.s.now x c.loop-at.at c.loop-at.invariant c.loop-at-test.false
