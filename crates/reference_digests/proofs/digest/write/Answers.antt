-- One byte more is written with each step. Assumes nothing.
use Prim.Native.Nat.{ℕ}
use mathlib.Core.Path.{sym, subst, ap, ◌∙◌}
use mathlib.Core.List.{◌++◌}
use native.Mathlib.Omega.{arith}
use lib.ListN.{drop}
use Rattle.text_strings.specs.InString.{content_from}
use Rattle.text_strings.proofs.Contents.{inside_content}
use Rattle.text_strings.proofs.Cursors.{new_left}
use Rattle.reference_parts.specs.Parts.{first_part}
use Rattle.reference_digests.specs.Digests.{digest_of}
use Rattle.reference_digests.proofs.Hex.{Writing, nothing_written, all_written, kept_length, some_left, both_digits, one_more, next_byte, next_bytes}
use Rattle.reference_digests.proofs.digest.write.Goals as goal

pub loop-k-init : goal.loop-k-init
loop-k-init c =
    let a = c.args in
    let e = c.digest_bytes-n.ensures.0 in
    let p = c.requires in (
      omega (arith, e, p.1),
      (
        content_from a.s.now a.i,
        new_left _ _ c.new-c.result _ c.new-c.ensures (inside_content _ _ p.0.inside),
        subst (λ (n : ℕ). Writing (first_part (content_from a.s.now a.i)) (content_from a.s.now a.i) n 0 a.out.now a.out.now) (sym e)
            (nothing_written a.a (content_from a.s.now a.i) a.out.now p.0.digest),
      ),
    )

pub next-low-requires : goal.next-low-requires
next-low-requires c =
    let i = c.loop-k.invariant.1 in
    let w = some_left _ i.0 _ c.loop-k.k _ _ i.2 c.loop-k-test.true in
    let a = next_byte _ i.0 c.next-high.result (c.next-high.ensures.by_index i.0 i.1) (omega arith) in
    record { bytes = a.0; left = a.2 }

pub byte_of-requires : goal.byte_of-requires
byte_of-requires c =
    let i = c.loop-k.invariant.1 in
    let h = c.loop-k-test.true in
    let q = next_bytes _ i.0 c.next-high.result c.next-low.result (c.next-high.ensures.by_index i.0 i.1) c.next-low.ensures.by_index
    (some_left _ i.0 _ c.loop-k.k _ _ i.2 h) in
    both_digits _ i.0 _ c.loop-k.k _ _ i.2 h _ _ q.0 q.1

pub bounds-out-k : goal.bounds-out-k
bounds-out-k c =
    let l = c.loop-k in
    omega (arith, c.loop-k-test.true, l.invariant.0, kept_length _ l.invariant.1.0 _ l.k _ _ l.invariant.1.2 l.invariant.0)

pub loop-k-preserved : goal.loop-k-preserved
loop-k-preserved c =
    let l = c.loop-k in
    let i = l.invariant.1 in
    let h = c.loop-k-test.true in
    let q = next_bytes _ i.0 c.next-high.result c.next-low.result (c.next-high.ensures.by_index i.0 i.1) c.next-low.ensures.by_index
    (some_left _ i.0 _ l.k _ _ i.2 h) in
    (l.invariant.0, (q.0, q.2, one_more _ i.0 _ l.k _ _ i.2 h _ _ q.0 q.1 _ c.byte_of.ensures (omega (arith, h, l.invariant.0))))

pub returns : goal.returns
returns c =
    let l = c.loop-k in
    all_written _ l.invariant.1.0 _ l.k _ _ l.invariant.1.2 c.loop-k-test.false
    ∙ ap (λ (n : ℕ). digest_of (first_part (content_from c.args.s.now c.args.i)) ++ drop n c.args.out.now) c.digest_bytes-n.ensures.0
