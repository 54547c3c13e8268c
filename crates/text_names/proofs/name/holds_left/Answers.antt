use mathlib.Core.Path.{refl}
use borrow.Author.Tests.{not-true, not-false}
use Rattle.text_strings.proofs.Cursors.{given_byte}
use Rattle.text_names.proofs.Names.{cursor_ends, cursor_done, cursor_differs, cursor_same}
use Rattle.text_names.proofs.name.holds_left.Goals as goal

pub loop-k-init : goal.loop-k-init
loop-k-init c = record { readable = c.requires.0; follows = λ x p. (x, p, refl) }

pub next-x-requires : goal.next-x-requires
next-x-requires c = c.loop-k.invariant.readable

pub returns-then-not-x : goal.returns-then-not-x
returns-then-not-x c =
    cursor_ends _ _ c.next-x.result _ _ c.loop-k.k c.loop-k.invariant.follows c.next-x.ensures.by_index c.loop-k-test.true (not-true _ c.if-not-x.true)

pub returns-then-x-name : goal.returns-then-x-name
returns-then-x-name c =
    cursor_differs _ _ c.next-x.result _ _ c.loop-k.k c.loop-k.invariant.follows c.next-x.ensures.by_index c.loop-k-test.true
    (not-false _ c.if-not-x.false) c.if-x-name.true

pub loop-k-preserved : goal.loop-k-preserved
loop-k-preserved c =
    let f = not-false _ c.if-not-x.false in
    let p = c.loop-k.invariant in
    let b = given_byte _ _ c.next-x.result f (c.next-x.ensures.by_index p.readable.bytes p.readable.left) in
    record {
      readable = record { bytes = b.0; left = b.2 };
      follows = cursor_same _ _ c.next-x.result _ _ c.loop-k.k p.follows c.next-x.ensures.by_index c.loop-k-test.true f c.if-x-name.false;
    }

pub next-x-requires-2 : goal.next-x-requires-2
next-x-requires-2 c = c.loop-k.invariant.readable

pub returns : goal.returns
returns c = cursor_done _ _ c.next-x-2.result _ _ c.loop-k.k c.loop-k.invariant.follows c.next-x-2.ensures.by_index c.loop-k-test.false
