-- `text_canonical::collect_keys` meets its contract. The loop's invariant: the keys that are collected and the members that are left make up
-- the object. The measure is how much of the text is left. Assumes nothing.
use borrow.Author.Rules.{rules}
use Prim.Native.Nat.{◌-◌}
use mathlib.Core.Bool.{true}
use mathlib.Core.Path.{◌≡◌, refl, subst}
use native.Mathlib.Omega.{arith}
use lib.ListN.{length, length-set}
use Rattle.text_view.specs.Listed.{GivesItem}
use Rattle.text_view.specs.declared.value.Item.TheVariants.{At}
use Rattle.text_view.proofs.Values.{within}
use Rattle.text_canonical.proofs.Collect
use Rattle.text_canonical.proofs.Collect.{KeysGathered}
use Rattle.text_canonical.proofs.collect_keys.Statement.{statement}
use Rattle.text_canonical.proofs.collect_keys.Tie as tie

abbrev invariant-loop : tie.invariant-loop-first
invariant-loop s at depth keys₀ n₀ i₀ keys n i = KeysGathered s at depth keys n i × (length keys ≡ length keys₀)

abbrev decreases-loop : tie.decreases-loop-first
decreases-loop s at depth keys₀ n₀ i₀ keys n i = length s - i

overflow_add-i : tie.Need-overflow_add-i invariant-loop decreases-loop
overflow_add-i c = omega (arith, within _ _ _ _ c.requires.here)

loop-first-init : tie.Need-loop-first-init invariant-loop decreases-loop
loop-first-init c = (Collect.started _ _ _ _ c.requires, refl)

overflow_sub-depth : tie.Need-overflow_sub-depth invariant-loop decreases-loop
overflow_sub-depth c = omega (arith, c.loop-first.invariant.0.some)

read_item-requires : tie.Need-read_item-requires invariant-loop decreases-loop
read_item-requires c κs = Collect.items_left c.loop-first.invariant.0

-- what `read_item` gave: a member
abbrev inv : (c : tie.In-At invariant-loop decreases-loop) → let b = c.before.before in let a = b.args in
    KeysGathered a.s.now a.at a.depth b.loop-first.keys b.loop-first.n b.loop-first.i
inv c = c.loop-first.invariant.0

abbrev inv_length : (c : tie.In-At invariant-loop decreases-loop) → let b = c.before.before in
    length b.loop-first.keys ≡ length b.args.keys.now
inv_length c = c.loop-first.invariant.1

given : (c : tie.In-At invariant-loop decreases-loop) → let b = c.before.before in let a = b.args in
    let p = b.loop-first.invariant.0 in let g = c.in-At in
    GivesItem a.s.now b.loop-first.i (a.depth - 1) true p.trees p.rest (At g.first g.value g.next)
given c =
    let p = inv c in
    let b = c.before in
    let a = b.args in
    subst (GivesItem a.s.now b.loop-first.i (a.depth - 1) true p.trees p.rest) c.in-At.is
    (b.read_item.ensures p.trees p.rest p.left)

overflow_cast-keys : tie.Need-overflow_cast-keys invariant-loop decreases-loop
overflow_cast-keys c = let p = inv c in omega (
  arith,
  Collect.position p _ _ _ p.trees (given c),
  c.requires.short,
)

offset_bounds-keys-n : tie.Need-offset_bounds-keys-n invariant-loop decreases-loop
offset_bounds-keys-n c = omega (arith, Collect.fits (inv c) _ _ _ (given c), inv_length c, c.well_formed)

bounds-keys-n : tie.Need-bounds-keys-n invariant-loop decreases-loop
bounds-keys-n c = Collect.fits (inv c) _ _ _ (given c)

overflow_add-n : tie.Need-overflow_add-n invariant-loop decreases-loop
overflow_add-n c = omega (arith, Collect.fits (inv c) _ _ _ (given c), inv_length c, c.well_formed)

loop-first-smaller : tie.Need-loop-first-smaller invariant-loop decreases-loop
loop-first-smaller c = let p = inv c in omega (arith, Collect.later p _ _ _ p.trees (given c))

loop-first-preserved : tie.Need-loop-first-preserved invariant-loop decreases-loop
loop-first-preserved c = (Collect.collected (inv c) _ _ _ (given c), simp length-set (inv_length c))

shape_of-keys-in-End : tie.Need-shape_of-keys-in-End invariant-loop decreases-loop
shape_of-keys-in-End c = c.loop-first.invariant.1

returns-in-End : tie.Need-returns-in-End invariant-loop decreases-loop
returns-in-End c =
    let d = c.before in
    let p = d.loop-first.invariant.0 in
    let a = d.args in (
      omega (arith, p.space, d.loop-first.invariant.1),
      Collect.finished p _
          (subst (GivesItem a.s.now d.loop-first.i (a.depth - 1) true p.trees p.rest) c.in-End.is
          (d.read_item.ensures p.trees p.rest p.left)),
    )

pub collect_keys_spec : {M : Type 1} → statement M
collect_keys_spec =
    tie.close (tie.spec invariant-loop decreases-loop overflow_add-i loop-first-init overflow_sub-depth read_item-requires (λ c. search rules) overflow_cast-keys offset_bounds-keys-n bounds-keys-n
    overflow_add-n loop-first-smaller loop-first-preserved (λ c. search rules) shape_of-keys-in-End returns-in-End)
