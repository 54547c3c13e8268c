-- One layer more is found with each step, or the first that fails. Assumes nothing.
use native.Mathlib.Omega.{arith}
use Rattle.manifest_objects.proofs.Standing.{stand_length}
use Rattle.lookup_layers.proofs.Listing.{read_sized}
use Rattle.lookup_outcome.proofs.Checking.{checked_none, entry_small, checked_fails, checked_next, checked_all}
use Rattle.lookup_outcome.proofs.check_all.Goals as goal

pub loop-e-init : goal.loop-e-init
loop-e-init c = (omega arith, λ room refs ds x. checked_none ds room refs _ _)

pub bounds-numbers-e : goal.bounds-numbers-e
bounds-numbers-e c = let x = c.requires.0.is in omega (arith, c.requires.1, x.layers_few, stand_length x.stand)

pub overflow_add-length : goal.overflow_add-length
overflow_add-length c =
    let x = c.requires.0.is in
    omega (
      arith,
      c.loop-e.invariant.0,
      entry_small _ _ _ _ _ (read_sized _ _ x.list) (rw c.in-Ok.is at (c.fate_of.ensures _ _ _ x)),
      stand_length x.stand,
      x.links.few,
    )

pub returns-in-Err : goal.returns-in-Err
returns-in-Err c = λ room refs ds x.
    let l = c.loop-e in
    checked_fails ds room refs _ l.e l.length l.numbers (l.invariant.1 room refs ds x) (omega (arith, stand_length x.stand)) _
    (rw c.in-Err.is at (c.fate_of.ensures room refs ds x))

pub loop-e-preserved : goal.loop-e-preserved
loop-e-preserved c =
    let l = c.loop-e in
    let y = c.requires.0.is in (
      omega (
        arith,
        l.invariant.0,
        entry_small _ _ _ _ _ (read_sized _ _ y.list) (rw c.in-Ok.is at (c.fate_of.ensures _ _ _ y)),
      ),
      λ room refs ds x. checked_next ds room refs _ l.e l.length l.numbers (l.invariant.1 room refs ds x) (omega (arith, stand_length x.stand)) _ _
          (rw c.in-Ok.is at (c.fate_of.ensures room refs ds x))
          (omega (arith, c.requires.1, x.layers_few, stand_length x.stand)),
    )

pub returns : goal.returns
returns c = λ room refs ds x.
    let l = c.loop-e in
    checked_all ds room refs _ l.e l.length l.numbers (l.invariant.1 room refs ds x) (omega (arith, stand_length x.stand))
