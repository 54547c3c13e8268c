-- What was collected are at most 64 positions, inside the manifest's text. Assumes nothing.
use Prim.Native.Nat.{◌-◌}
use mathlib.Core.Path.{◌≡◌}
use native.Mathlib.Omega.{arith}
use Rattle.manifest.proofs.Limits.{self_names_few}
use Rattle.manifest_index.proofs.Placing.{placed_none, placed_next, placed_all, own_count}
use Rattle.manifest_index.proofs.place_self.Goals as goal

pub collect_self-n-requires : goal.collect_self-n-requires
collect_self-n-requires c = let p = c.requires in (p.2, p.3)

pub loop-i-init : goal.loop-i-init
loop-i-init c = placed_none _ _ _

pub bounds-at-i : goal.bounds-at-i
bounds-at-i c =
    let e = c.collect_self-n.ensures in
    omega (arith, own_count _ _ _ _ e.1 e.0, self_names_few _ c.requires.2.good)

pub loop-i-preserved : goal.loop-i-preserved
loop-i-preserved c =
    let e = c.collect_self-n.ensures in
    placed_next _ _ _ c.loop-i.at c.loop-i.i (omega (arith, e.0))
    (omega (arith, own_count _ _ _ _ e.1 e.0, self_names_few _ c.requires.2.good, c.requires.4)) c.loop-i.invariant

pub returns : goal.returns
returns c =
    let e = c.collect_self-n.ensures in
    let i : c.loop-i.i ≡ c.collect_self-n.result = omega arith in
    let p = rw i at c.loop-i.invariant in (
      omega (arith, own_count _ _ _ _ e.1 e.0, self_names_few _ c.requires.2.good),
      p.length_kept,
      p.rest,
      placed_all c.args.b.now c.args.start (c.args.end - c.args.start) c.collect_self-n.new.names _ _ _ _ p e.1,
      c.collect_self-n.auto.names,
    )
