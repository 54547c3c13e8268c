use Prim.Native.Nat.{◌+◌, ◌-◌, ◌≤◌, ◌<◌}
use mathlib.Core.Path.{◌≡◌, subst, ◌∙◌}
use mathlib.Core.List.{List}
use native.Mathlib.Omega.{arith}
use borrow.Rule.Slice.PartMut.{mid_of, mid_len}
use lib.ListN.{length, take}
use lib.Seq.{length-take-le}
use Rattle.manifest_objects.specs.Objects.{AllStand}
use Rattle.store_record.specs.Image.{Image}
use Rattle.store_record.specs.Reading.{between}
use Rattle.store_record.proofs.Walks.{records_size}
use Rattle.store_names.proofs.Opened.{opened_at}
use Rattle.lookup_paths.specs.Follow.{objects_of}
use Rattle.lookup_table.proofs.Walking.{all_images}
use Rattle.lookup_table.proofs.Placing.{placed_none, placed_next}
use Rattle.lookup_table.proofs.place_all.Goals as goal

pub loop-i-init : goal.loop-i-init
loop-i-init c = placed_none _ _ _ _ c.requires.2

pub place_objects-m-requires : goal.place_objects-m-requires
unfolding between
place_objects-m-requires c =
    let l = c.loop-i in
    let o = c.requires.0 in
    let r = o.fills.each _ c.loop-i-test.true in
    let lent = mid_len l.n (length l.keys) l.keys (omega (arith, l.invariant.few, l.invariant.size, c.requires.1, o.fills.few)) in
    (r.text, r.within, opened_at _ _ _ o _ c.loop-i-test.true _, omega (arith, lent, l.invariant.few, l.invariant.size, c.requires.1, o.fills.few))

pub loop-i-preserved : goal.loop-i-preserved
unfolding between
loop-i-preserved c =
    let l = c.loop-i in
    let o = c.requires.0 in
    let e = c.place_objects-m.ensures in
    let m = c.place_objects-m.result in
    let few : l.i < 64 = omega (arith, c.loop-i-test.true, o.fills.few) in
    let fits : l.n + 64 ≤ length l.keys = omega (arith, few, l.invariant.few, l.invariant.size, c.requires.1) in
    let lent : length (mid_of l.n (length l.keys - l.n) l.keys) ≡ length l.keys - l.n = mid_len l.n (length l.keys) l.keys (omega arith) in
    placed_next _ _ (omega (arith, records_size c.args.v c.well_formed.1.0, o.fills.few)) l.i l.n _ l.keys l.counts l.invariant c.loop-i-test.true few
    (omega (arith, fits)) m e.0 _ (e.1 ∙ lent) e.3 (length-take-le m _ (omega (arith, e.0, e.1, lent, fits)))

pub returns : goal.returns
returns c =
    let l = c.loop-i in
    let fits : c.args.v.count ≤ length c.args.v.records = omega (arith, records_size c.args.v c.well_formed.1.0, c.requires.0.fills.few) in
    let e : l.i ≡ c.args.v.count = omega arith in
    let p = l.invariant in (
      omega (arith, p.few, c.requires.0.fills.few),
      rw e at p.counted,
      subst (λ (xs : List Image). AllStand c.args.b.now (take l.n l.keys) (objects_of xs)) (all_images _ c.args.v fits l.i e) p.stand,
    )
