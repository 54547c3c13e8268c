-- The next two digits stand for themselves, and one byte more is compared with each step. Assumes nothing.
use Prim.Native.Nat.{◌+◌, ◌*◌}
use mathlib.Core.Path.{◌≡◌, refl, sym, ◌∙◌}
use native.Mathlib.Omega.{arith}
use Rattle.text_strings.specs.InString.{content_from}
use Rattle.text_strings.proofs.Contents.{inside_content}
use Rattle.text_strings.proofs.Cursors.{inside_within, new_left}
use Rattle.reference_digests.proofs.Hex.{digest_digits, other_bytes, all_compared, pair_left, pair_digits, pair_after, byte_differs, byte_same}
use Rattle.reference_digests.proofs.digest.is.Goals as goal

pub returns-then-bytes-digest_bytes : goal.returns-then-bytes-digest_bytes
returns-then-bytes-digest_bytes c =
    other_bytes c.args.a _ _ c.requires.digest (λ e. c.if-bytes-digest_bytes.true (e ∙ sym c.digest_bytes.ensures.0))

pub loop-k-init : goal.loop-k-init
loop-k-init c =
    let a = c.args in
    let d = digest_digits a.a (content_from a.s.now a.i) c.requires.digest in
    let z : a.i + 0 ≡ a.i = omega arith in
    rw z (
      c.requires.inside,
      record { size = omega (arith, d.size, c.if-bytes-digest_bytes.false, c.digest_bytes.ensures.0); digits = d.digits },
      refl,
    )

pub overflow_add-at : goal.overflow_add-at
overflow_add-at c = omega (arith, inside_within _ _ c.loop-k.invariant.0, c.well_formed)

pub are_plain-requires : goal.are_plain-requires
are_plain-requires c =
    let l = c.loop-k in
    (l.invariant.0, pair_left _ c.args.bytes.now l.k l.invariant.1 c.loop-k-test.true)

pub cursor_is-requires : goal.cursor_is-requires
cursor_is-requires c =
    let i = c.loop-k.invariant in
    record { content = _; left = new_left _ _ c.new.result _ c.new.ensures (inside_content _ _ i.0); part = i.1 }

pub returns-then-not-are_plain : goal.returns-then-not-are_plain
returns-then-not-are_plain c =
    let i = c.loop-k.invariant in
    c.cursor_is.ensures _ (new_left _ _ c.new.result _ c.new.ensures (inside_content _ _ i.0)) ∙ i.2

pub bounds-s-at : goal.bounds-s-at
bounds-s-at c = omega (arith, inside_within _ _ (c.are_plain.ensures c.if-not-are_plain.false).inside)

pub overflow_add-at-in-loop-k : goal.overflow_add-at-in-loop-k
overflow_add-at-in-loop-k c = omega (arith, inside_within _ _ (c.are_plain.ensures c.if-not-are_plain.false).inside, c.well_formed)

pub bounds-s-at-in-loop-k : goal.bounds-s-at-in-loop-k
bounds-s-at-in-loop-k c = omega (arith, inside_within _ _ (c.are_plain.ensures c.if-not-are_plain.false).inside)

pub byte_of-requires : goal.byte_of-requires
byte_of-requires c =
    let l = c.loop-k in
    let p = c.are_plain.ensures c.if-not-are_plain.false in
    pair_digits _ c.args.bytes.now l.k l.invariant.1 c.loop-k-test.true _ _ _ p.begins

pub returns-then-byte_of-byte : goal.returns-then-byte_of-byte
returns-then-byte_of-byte c =
    let l = c.loop-k in
    let p = c.are_plain.ensures c.if-not-are_plain.false in
    byte_differs _ c.args.bytes.now l.k l.invariant.1 c.loop-k-test.true _ _ _ p.begins _ c.byte_of.ensures c.if-byte_of-byte.true ∙ l.invariant.2

pub loop-k-preserved : goal.loop-k-preserved
loop-k-preserved c =
    let l = c.loop-k in
    let h = c.loop-k-test.true in
    let p = c.are_plain.ensures c.if-not-are_plain.false in
    let n : c.args.i + 2 * (l.k + 1) ≡ c.args.i + 2 * l.k + 2 = omega arith in
    rw n (
      p.inside,
      pair_after _ c.args.bytes.now l.k l.invariant.1 h _ _ _ p.begins,
      byte_same _ c.args.bytes.now l.k l.invariant.1 h _ _ _ p.begins _ c.byte_of.ensures c.if-byte_of-byte.false ∙ l.invariant.2,
    )

pub returns : goal.returns
returns c =
    let l = c.loop-k in
    all_compared _ c.args.bytes.now l.k l.invariant.1 c.loop-k-test.false ∙ l.invariant.2
