-- `lookup_links::follow` meets its contract. The loop's invariant: the path has come to the reference `at` with `left` steps left. The measure is `left`.
-- Assumes nothing.
use Prim.Native.Nat.{◌+◌, ◌≤◌, ◌<◌}
use mathlib.Core.Path.{◌≡◌}
use mathlib.Core.Bool.{false}
use mathlib.Core.List.{List}
use native.Mathlib.Omega.{arith}
use lib.ListN.{length}
use Rattle.reference.specs.References.{Layer}
use Rattle.store_record.specs.Image.{Image}
use Rattle.store_keys.specs.Clash.{any_clash}
use Rattle.lookup_paths.specs.Follow.{keys_in, object_count}
use Rattle.lookup_links.specs.Links.{Links}
use Rattle.lookup_links.specs.Following.{Followable}
use Rattle.lookup_links.proofs.Following.{Comes, next_followable, comes_first, comes_digest, comes_undefined, comes_bad, comes_again, comes_on}
use Rattle.lookup_links.proofs.follow.Statement.{statement}
use Rattle.lookup_links.proofs.follow.Tie as tie

abbrev invariant-loop : tie.invariant-loop-e
invariant-loop next e objects at₀ left₀ at left =
    Followable next at objects × (left ≤ objects + 1)
    × ((room : List Image) (refs : List Layer) → any_clash room ≡ false → Links (keys_in room) refs next → object_count room ≡ objects → e < length refs
    → Comes room refs e at left)

abbrev decreases-loop : tie.decreases-loop-e
decreases-loop next e objects at₀ left₀ at left = left

overflow_add-left : tie.Need-overflow_add-left invariant-loop decreases-loop
overflow_add-left c = let p = c.requires in omega (arith, p.few, p.links.few)

loop-e-init : tie.Need-loop-e-init invariant-loop decreases-loop
loop-e-init c = (c.requires, omega arith, λ room refs n l o h. comes_first room refs _ _ o h)

offset_bounds-next-at : tie.Need-offset_bounds-next-at invariant-loop decreases-loop
offset_bounds-next-at c = let p = c.loop-e.invariant.0 in omega (arith, p.within, p.links.few)

bounds-next-at : tie.Need-bounds-next-at invariant-loop decreases-loop
bounds-next-at c = let p = c.loop-e.invariant.0 in omega (arith, p.within, p.links.space)

returns-then-o : tie.Need-returns-then-o invariant-loop decreases-loop
returns-then-o c = λ room refs n l o h. comes_digest room refs _ l _ _ _ (c.loop-e.invariant.2 room refs n l o h) c.if-o.true

returns-then-o-2 : tie.Need-returns-then-o-2 invariant-loop decreases-loop
returns-then-o-2 c = λ room refs n l o h. comes_undefined room refs _ l _ _ _ (c.loop-e.invariant.2 room refs n l o h) c.if-o-2.true

returns-then-o-3 : tie.Need-returns-then-o-3 invariant-loop decreases-loop
returns-then-o-3 c = λ room refs n l o h. comes_bad room refs _ l _ _ _ (c.loop-e.invariant.2 room refs n l o h) c.if-o-3.true

returns-then-left-eq0 : tie.Need-returns-then-left-eq0 invariant-loop decreases-loop
returns-then-left-eq0 c = λ room refs n l o h.
    let e = c.before in
    comes_again room refs _ l _ _ _ (e.loop-e.invariant.2 room refs n l o h) e.if-o.false e.if-o-2.false
    e.if-o-3.false
    c.if-left-eq0.true

overflow_sub-left : tie.Need-overflow_sub-left invariant-loop decreases-loop
overflow_sub-left c = omega (arith, c.if-left-eq0.false)

overflow_cast-at : tie.Need-overflow_cast-at invariant-loop decreases-loop
overflow_cast-at c = let e = c.before in let p = e.loop-e.invariant.0 in
    let f = next_followable _ _ _ p e.if-o.false e.if-o-2.false e.if-o-3.false in omega (arith, f.within, f.links.few)

loop-e-smaller : tie.Need-loop-e-smaller invariant-loop decreases-loop
loop-e-smaller c = omega (arith, c.if-left-eq0.false)

loop-e-preserved : tie.Need-loop-e-preserved invariant-loop decreases-loop
loop-e-preserved c =
    let e = c.before in
    let i = e.loop-e.invariant in
    let d = e.if-o.false in
    let u = e.if-o-2.false in
    let m = e.if-o-3.false in (
      next_followable _ _ _ i.0 d u m,
      omega (arith, i.1, c.if-left-eq0.false),
      λ room refs n l o h. comes_on room refs _ l _ _ _ (i.2 room refs n l o h) d u m n c.if-left-eq0.false,
    )

pub follow_spec : {M : Type 1} → statement M
follow_spec =
    tie.close (tie.spec invariant-loop decreases-loop overflow_add-left loop-e-init offset_bounds-next-at bounds-next-at returns-then-o
    returns-then-o-2 returns-then-o-3 returns-then-left-eq0 overflow_sub-left overflow_cast-at loop-e-smaller loop-e-preserved)
