use native.Mathlib.Omega.{arith}
use borrow.Author.Tests.{not-true, not-false}
use Rattle.text_strings.specs.Cursor.{Left, ReadableCursor, weight}
use Rattle.text_strings.proofs.Cursors.{given_byte}
use Rattle.text_order.proofs.Orders.{Tracks, first_ends, both_end, second_ends, first_less, first_more, goes_on}
use mathlib.Core.Path.{refl}
use Rattle.text_order.proofs.compare_cursors.Statement.{statement}
use Rattle.text_order.proofs.compare_cursors.Tie as tie

abbrev invariant-loop : tie.invariant-loop-x
invariant-loop s t i₀ j₀ i j = ReadableCursor s i × ReadableCursor t j × Tracks (Left s i₀) (Left t j₀) (Left s i) (Left t j)

abbrev decreases-loop : tie.decreases-loop-x
decreases-loop s t i₀ j₀ i j = weight s i

loop-x-init : tie.Need-loop-x-init invariant-loop decreases-loop
loop-x-init c = (c.requires.0, c.requires.1, λ x y p q. (x, y, p, q, refl))

next-x-requires : tie.Need-next-x-requires invariant-loop decreases-loop
next-x-requires c κs = c.loop-x.invariant.0

next-y-requires : tie.Need-next-y-requires invariant-loop decreases-loop
next-y-requires c κs = c.loop-x.invariant.1

returns-then-y : tie.Need-returns-then-y invariant-loop decreases-loop
returns-then-y c =
    let d = c.before.before.before in
    first_ends _ _ d.loop-x.invariant.2 d.next-x.result d.next-y.result d.next-x.ensures.0 d.next-y.ensures.0
    (not-true _ c.if-not-x.true) c.if-y.true

returns-then-not-x : tie.Need-returns-then-not-x invariant-loop decreases-loop
returns-then-not-x c =
    let d = c.before.before.before in
    both_end _ _ d.loop-x.invariant.2 d.next-x.result d.next-y.result d.next-x.ensures.0 d.next-y.ensures.0
    (not-true _ c.if-not-x.true) c.if-y.false

returns-then-not-y : tie.Need-returns-then-not-y invariant-loop decreases-loop
returns-then-not-y c =
    let d = c.before.before.before.before in
    second_ends _ _ d.loop-x.invariant.2 d.next-x.result d.next-y.result d.next-x.ensures.0 d.next-y.ensures.0
    (not-false _ c.if-not-x.false) (not-true _ c.if-not-y.true)

returns-then-x-y : tie.Need-returns-then-x-y invariant-loop decreases-loop
returns-then-x-y c =
    let d = c.before.before.before.before.before.before.before in
    first_less _ _ d.loop-x.invariant.2 d.next-x.result d.next-y.result d.next-x.ensures.0 d.next-y.ensures.0
    (not-false _ c.if-not-x.false) (not-false _ c.if-not-y.false) c.if-x-y.true

returns-then-y-x : tie.Need-returns-then-y-x invariant-loop decreases-loop
returns-then-y-x c =
    let d = c.before.before.before.before.before.before.before.before.before.before in
    first_more _ _ d.loop-x.invariant.2 d.next-x.result d.next-y.result d.next-x.ensures.0 d.next-y.ensures.0
    (not-false _ c.if-not-x.false)
    (not-false _ c.if-not-y.false) c.if-y-x.true

loop-x-smaller : tie.Need-loop-x-smaller invariant-loop decreases-loop
loop-x-smaller c = c.next-x.ensures.1
    (not-false _ c.if-not-x.false)

loop-x-preserved : tie.Need-loop-x-preserved invariant-loop decreases-loop
loop-x-preserved c =
    let d = c.before.before.before.before.before.before.before.before.before.before.before.before in
    let a = not-false _ c.if-not-x.false in
    let b = not-false _ c.if-not-y.false in
    let n = d.next-x.result in
    let m = d.next-y.result in
    let inv = d.loop-x.invariant in
    let x = given_byte _ _ n a (d.next-x.ensures.0 inv.0.bytes inv.0.left) in
    let y = given_byte _ _ m b (d.next-y.ensures.0 inv.1.bytes inv.1.left) in (
      record { bytes = x.0; left = x.2 },
      record { bytes = y.0; left = y.2 },
      goes_on _ _ inv.2 n m d.next-x.ensures.0 d.next-y.ensures.0 a b (omega (
        arith,
        c.if-x-y.false,
        c.if-y-x.false,
      )),
    )

pub compare_cursors_spec : {M : Type 1} → statement M
compare_cursors_spec =
    tie.close (tie.spec invariant-loop decreases-loop loop-x-init next-x-requires next-y-requires returns-then-y returns-then-not-x returns-then-not-y returns-then-x-y returns-then-y-x loop-x-smaller loop-x-preserved)
