-- `text_names::head::head_left` meets its contract. The loop's invariant: the bytes that are left make up behind h what all of them make up behind
-- the start. The measure is how many bytes are to come. Assumes nothing.
use Prim.Native.Nat.{ℕ, ◌-◌, ◌*◌, ◌≤◌, ◌<◌}
use mathlib.Core.Path.{refl, sym, subst, ◌∙◌}
use native.Mathlib.Omega.{arith}
use native.Mathlib.Nat.{add-zero}
use Rattle.text_strings.specs.Cursor.{Left, ReadableCursor}
use Rattle.text_names.specs.Head.{head_bound}
use Rattle.text_strings.proofs.Cursors.{given_byte}
use Rattle.text_names.proofs.Heads.{Continues, bound_more, bound_fits, head_done, cursor_end, cursor_byte}
use Rattle.text_names.proofs.head.head_left.Statement.{statement}
use Rattle.text_names.proofs.head.head_left.Tie as tie

abbrev invariant-loop : tie.invariant-loop-left
invariant-loop s n start c₀ left₀ h₀ c left h = ReadableCursor s c × (left ≤ 4) × (h < head_bound left) × Continues (Left s c₀) (Left s c) n start left h

abbrev decreases-loop : tie.decreases-loop-left
decreases-loop s n start c₀ left₀ h₀ c left h = left

loop-left-init : tie.Need-loop-left-init invariant-loop decreases-loop
loop-left-init c = let p = c.requires in (p.0, p.1, p.2, λ x q. (x, q, refl))

next-x-requires : tie.Need-next-x-requires invariant-loop decreases-loop
next-x-requires c κs = c.loop-left.invariant.0

-- what was taken is a byte, and with it the number fits
byte : (c : tie.After-struct_known-1 invariant-loop decreases-loop) → c.next-x.result.byte < 256
byte c = omega (arith, c.struct_known-1.given)

overflow_mul-h : tie.Need-overflow_mul-h invariant-loop decreases-loop
overflow_mul-h c =
    let l = c.loop-left in
    omega (arith, bound_fits l.left l.h 0 c.loop-left-test.true l.invariant.1 l.invariant.2 (omega arith))

overflow_cast-h : tie.Need-overflow_cast-h invariant-loop decreases-loop
overflow_cast-h c = omega (arith, byte c)

overflow_add-h : tie.Need-overflow_add-h invariant-loop decreases-loop
overflow_add-h c =
    let l = c.loop-left in
    omega (arith, bound_fits l.left l.h _ c.loop-left-test.true l.invariant.1 l.invariant.2 (byte c))

loop-left-preserved-then-x : tie.Need-loop-left-preserved-then-x invariant-loop decreases-loop
loop-left-preserved-then-x c =
    let n = c.before.before.before in
    let l = n.loop-left in
    let f = c.if-x.true in
    let b = given_byte _ _ n.next-x.result f (n.next-x.ensures.0 l.invariant.0.bytes l.invariant.0.left) in (
      record { bytes = b.0; left = b.2 },
      omega (arith, l.invariant.1),
      bound_more l.left l.h _ n.loop-left-test.true l.invariant.1 l.invariant.2 (byte c.before),
      cursor_byte _ n.next-x.result _ _ l.left l.h l.invariant.3 n.loop-left-test.true n.next-x.ensures.0 f,
    )

overflow_mul-h-else-x : tie.Need-overflow_mul-h-else-x invariant-loop decreases-loop
overflow_mul-h-else-x c =
    let l = c.loop-left in
    omega (arith, bound_fits l.left l.h 0 c.loop-left-test.true l.invariant.1 l.invariant.2 (omega arith))

loop-left-preserved : tie.Need-loop-left-preserved invariant-loop decreases-loop
loop-left-preserved c =
    let n = c.before in
    let l = n.loop-left in (
      l.invariant.0,
      omega (arith, l.invariant.1),
      subst (λ (g : ℕ). g < head_bound (l.left - 1)) (add-zero (l.h * 256))
          (bound_more l.left l.h 0 n.loop-left-test.true l.invariant.1 l.invariant.2 (omega arith)),
      cursor_end _ n.next-x.result _ _ l.left l.h l.invariant.3 n.loop-left-test.true n.next-x.ensures.0 c.if-x.false,
    )

returns : tie.Need-returns invariant-loop decreases-loop
returns c =
    λ x p. let l = c.loop-left in let k = l.invariant.3 x p in sym (k.2 ∙ head_done l.left l.h k.0 c.loop-left-test.false)

pub head_left_spec : {M : Type 1} → statement M
head_left_spec =
    tie.close (tie.spec invariant-loop decreases-loop loop-left-init next-x-requires (λ c. omega arith) overflow_mul-h overflow_cast-h overflow_add-h (λ c. omega arith) loop-left-preserved-then-x overflow_mul-h-else-x
    (λ c. omega arith) loop-left-preserved returns)
