-- `text_names::head::head` meets its contract. The loop's invariant: what is left of the content makes up behind h what the whole makes up. The measure
-- is how many bytes are to come. Assumes nothing.
use Prim.Native.Nat.{ℕ, ◌-◌, ◌*◌, ◌≤◌, ◌<◌}
use mathlib.Core.Path.{◌≡◌, refl, sym, subst, ◌∙◌}
use native.Mathlib.Omega.{arith}
use native.Mathlib.Nat.{add-zero}
use lib.ListN.{get_or}
use borrow.Author.Rules.{rules}
use Rattle.text_strings.specs.InString.{Inside, content_from}
use Rattle.text_names.specs.Head.{head_from, head_of, head_bound}
use Rattle.text_strings.proofs.Contents.{inside_content}
use Rattle.text_strings.proofs.Cursors.{inside_within, new_left}
use Rattle.text_names.proofs.Heads.{bound_more, bound_fits, head_done, over_end, over_byte}
use Rattle.text_names.proofs.head.head.Statement.{statement}
use Rattle.text_names.proofs.head.head.Tie as tie

abbrev invariant-loop : tie.invariant-loop-left
invariant-loop s i at₀ left₀ h₀ at left h =
    Inside s at × (left ≤ 4) × (h < head_bound left) × (head_of (content_from s i) ≡ head_from left h (content_from s at))

abbrev decreases-loop : tie.decreases-loop-left
decreases-loop s i at₀ left₀ h₀ at left h = left

-- the byte that was read
byte : (c : tie.After-shared_slice_known-in-loop-left-1 invariant-loop decreases-loop) → let l = c.before.before in get_or l.args.s.now l.loop-left.at 0 < 256
byte c = omega (arith, c.shared_slice_known-in-loop-left-1.given c.loop-left.at)

loop-left-init : tie.Need-loop-left-init invariant-loop decreases-loop
unfolding head_of
loop-left-init c = (c.requires, omega arith, omega arith, refl)

bounds-s-at : tie.Need-bounds-s-at invariant-loop decreases-loop
bounds-s-at c = inside_within _ _ c.loop-left.invariant.0

head_left-requires : tie.Need-head_left-requires invariant-loop decreases-loop
head_left-requires c κs =
    let inv = c.loop-left.invariant in
    (record { bytes = inv.0.bytes; left = new_left _ _ _ _ c.new.ensures inv.0.here }, inv.1, inv.2)

returns-then-b-eq92 : tie.Need-returns-then-b-eq92 invariant-loop decreases-loop
returns-then-b-eq92 c =
    let inv = c.loop-left.invariant in
    c.head_left.ensures _ (new_left _ _ _ _ c.new.ensures (inside_content _ _ inv.0)) ∙ sym inv.3

overflow_mul-h : tie.Need-overflow_mul-h invariant-loop decreases-loop
overflow_mul-h c =
    let t = c.before.before.before in
    let l = t.loop-left in
    omega (arith, bound_fits l.left l.h 0 t.loop-left-test.true l.invariant.1 l.invariant.2 (omega arith))

loop-left-preserved-then-b-eq34 : tie.Need-loop-left-preserved-then-b-eq34 invariant-loop decreases-loop
loop-left-preserved-then-b-eq34 c =
    let t = c.before.before.before in
    let l = t.loop-left in (
      l.invariant.0,
      omega (arith, l.invariant.1),
      subst (λ (g : ℕ). g < head_bound (l.left - 1)) (add-zero (l.h * 256))
          (bound_more l.left l.h 0 t.loop-left-test.true l.invariant.1 l.invariant.2 (omega arith)),
      l.invariant.3 ∙ over_end _ l.at l.left l.h t.loop-left-test.true l.invariant.0 c.if-b-eq34.true,
    )

overflow_mul-h-else-b-eq34 : tie.Need-overflow_mul-h-else-b-eq34 invariant-loop decreases-loop
overflow_mul-h-else-b-eq34 c =
    let t = c.before.before.before in
    let l = t.loop-left in
    omega (arith, bound_fits l.left l.h 0 t.loop-left-test.true l.invariant.1 l.invariant.2 (omega arith))

overflow_cast-h : tie.Need-overflow_cast-h invariant-loop decreases-loop
overflow_cast-h c = omega (arith, byte c.before.before)

overflow_add-h : tie.Need-overflow_add-h invariant-loop decreases-loop
overflow_add-h c =
    let t = c.before.before.before in
    let l = t.loop-left in
    omega (arith, bound_fits l.left l.h _ t.loop-left-test.true l.invariant.1 l.invariant.2 (byte c.before.before))

overflow_add-at : tie.Need-overflow_add-at invariant-loop decreases-loop
overflow_add-at c = omega (arith, inside_within _ _ c.loop-left.invariant.0)

loop-left-preserved : tie.Need-loop-left-preserved invariant-loop decreases-loop
loop-left-preserved c =
    let t = c.before.before.before in
    let l = t.loop-left in
    let o = over_byte _ l.at l.left l.h t.loop-left-test.true l.invariant.0 c.if-b-eq34.false c.if-b-eq92.false in (
      o.1,
      omega (arith, l.invariant.1),
      bound_more l.left l.h _ t.loop-left-test.true l.invariant.1 l.invariant.2 (byte c.before.before),
      l.invariant.3 ∙ o.0,
    )

returns : tie.Need-returns invariant-loop decreases-loop
returns c = let l = c.loop-left in sym (l.invariant.3 ∙ head_done l.left l.h _ c.loop-left-test.false)

pub head_spec : {M : Type 1} → statement M
head_spec =
    tie.close (tie.spec invariant-loop decreases-loop loop-left-init bounds-s-at (λ c κs. search rules) head_left-requires returns-then-b-eq92 (λ c. omega arith) overflow_mul-h
    (λ c. omega arith) loop-left-preserved-then-b-eq34 overflow_mul-h-else-b-eq34 overflow_cast-h overflow_add-h overflow_add-at (λ c. omega arith) loop-left-preserved returns)
