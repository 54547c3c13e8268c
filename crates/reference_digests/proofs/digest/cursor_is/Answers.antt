-- One byte more is compared with each step. Assumes nothing.
use Prim.Native.Nat.{ℕ}
use mathlib.Core.Path.{ap, ◌∙◌}
use mathlib.Core.List.{List}
use native.Mathlib.Omega.{arith}
use lib.ListN.{drop}
use Rattle.laws.specs.Order.{same}
use Rattle.reference_parts.specs.Parts.{first_part}
use Rattle.reference_digests.specs.Digests.{digest_of}
use Rattle.reference_digests.proofs.Hex.{all_compared, pair_left, pair_digits, pair_after, byte_differs, byte_same, next_byte, next_bytes, left_same}
use Rattle.reference_digests.proofs.digest.cursor_is.Goals as goal

pub loop-k-init : goal.loop-k-init
loop-k-init c =
    let p = c.requires in (
      p.content,
      p.left,
      p.part,
      λ d q. ap (λ (x : List ℕ). same (digest_of (first_part x)) (drop c.args.at c.args.bytes.now)) (left_same _ _ _ d p.left q),
    )

pub next-low-requires : goal.next-low-requires
next-low-requires c =
    let i = c.loop-k.invariant in
    let w = pair_left i.0 c.args.bytes.now c.loop-k.k i.2 c.loop-k-test.true in
    let b = next_byte _ i.0 c.next-high.result (c.next-high.ensures.by_index i.0 i.1) (omega arith) in
    record { bytes = b.0; left = b.2 }

pub byte_of-requires : goal.byte_of-requires
byte_of-requires c =
    let i = c.loop-k.invariant in
    let h = c.loop-k-test.true in
    let q = next_bytes _ i.0 c.next-high.result c.next-low.result (c.next-high.ensures.by_index i.0 i.1) c.next-low.ensures.by_index
    (pair_left i.0 c.args.bytes.now c.loop-k.k i.2 h) in
    pair_digits _ c.args.bytes.now c.loop-k.k i.2 h _ _ _ q.1

pub returns-then-byte_of-bytes : goal.returns-then-byte_of-bytes
returns-then-byte_of-bytes c =
    let i = c.loop-k.invariant in
    let h = c.loop-k-test.true in
    let q = next_bytes _ i.0 c.next-high.result c.next-low.result (c.next-high.ensures.by_index i.0 i.1) c.next-low.ensures.by_index
    (pair_left i.0 c.args.bytes.now c.loop-k.k i.2 h) in
    λ d p. byte_differs _ c.args.bytes.now c.loop-k.k i.2 h _ _ _ q.1 _ c.byte_of.ensures c.if-byte_of-bytes.true ∙ i.3 d p

pub loop-k-preserved : goal.loop-k-preserved
loop-k-preserved c =
    let i = c.loop-k.invariant in
    let h = c.loop-k-test.true in
    let q = next_bytes _ i.0 c.next-high.result c.next-low.result (c.next-high.ensures.by_index i.0 i.1) c.next-low.ensures.by_index
    (pair_left i.0 c.args.bytes.now c.loop-k.k i.2 h) in (
      q.0,
      q.2,
      pair_after _ c.args.bytes.now c.loop-k.k i.2 h _ _ _ q.1,
      λ d p. byte_same _ c.args.bytes.now c.loop-k.k i.2 h _ _ _ q.1 _ c.byte_of.ensures c.if-byte_of-bytes.false ∙ i.3 d p,
    )

pub returns : goal.returns
returns c =
    let i = c.loop-k.invariant in
    λ d p. all_compared _ c.args.bytes.now c.loop-k.k i.2 c.loop-k-test.false ∙ i.3 d p
