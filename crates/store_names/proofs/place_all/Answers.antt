use Rattle.std.proofs.Common.{refl, ◌∙◌, arith, length, ◌+◌, ◌*◌, ◌<◌, ◌≤◌}
use borrow.Rule.Slice.PartMut.{mid_len}
use Rattle.store_record.specs.Reading.{between}
use Rattle.store_names.proofs.Opened.{opened_at}
use Rattle.store_names.proofs.Placing.{placed_none, placed_next}
use Rattle.store_names.proofs.place_all.Goals as goal

pub loop-i-init : goal.loop-i-init
loop-i-init c = (placed_none _ _ _ _ c.requires.2 c.requires.3, refl)

pub place_self-n-requires : goal.place_self-n-requires
unfolding between
place_self-n-requires c =
    let i = c.loop-i.i in
    let at = c.loop-i.at in
    let o = c.requires.0 in
    let r = o.fills.each _ c.loop-i-test.true in
    let few : i < 64 = omega (arith, o.fills.few) in
    let fits : 64 * i + 64 ≤ length at = omega (arith, c.loop-i.invariant.0.at_space) in (
      r.text,
      r.within,
      opened_at _ _ _ o _ c.loop-i-test.true _,
      omega (arith, c.loop-i.invariant.1, c.requires.1),
      omega (arith, mid_len (64 * i) (length at) at (omega arith)),
    )

pub loop-i-preserved : goal.loop-i-preserved
unfolding between
loop-i-preserved c =
    let i = c.loop-i.i in
    let at = c.loop-i.at in
    let e = c.place_self-n.ensures in
    let few : i < 64 = omega (arith, c.requires.0.fills.few) in
    let fits : 64 * i + 64 ≤ length at = omega (arith, c.loop-i.invariant.0.at_space) in (
      placed_next _ _ _ _ i c.loop-i.invariant.0 few c.place_self-n.result _ e.0 (omega (arith, e.1, mid_len (64 * i) (length at) at (omega arith))) e.3,
      e.4 ∙ c.loop-i.invariant.1,
    )
