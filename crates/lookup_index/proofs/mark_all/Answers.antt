-- One reference more is marked with each step. Assumes nothing.
use mathlib.Core.Path.{◌≡◌, refl}
use native.Mathlib.Omega.{arith}
use lib.ListN.{length}
use Rattle.manifest_objects.proofs.Standing.{stand_length, stand_at, some_stands}
use Rattle.lookup_index.proofs.Marking.{marked_none, marked_next, marked_links, marked_named}
use Rattle.lookup_index.proofs.mark_all.Goals as goal

pub loop-e-init : goal.loop-e-init
loop-e-init c = λ refs s. marked_none _ refs _ _

pub mark-requires : goal.mark-requires
mark-requires c = (
  some_stands c.requires.0.stand _ c.loop-e-test.true,
  omega (arith, c.requires.1),
  omega (arith, c.requires.2),
)

pub loop-e-preserved : goal.loop-e-preserved
loop-e-preserved c = λ refs s.
    marked_next _ refs c.loop-e.at c.loop-e.next c.loop-e.e (c.loop-e.invariant refs s) (omega (arith, c.requires.2)) _ _
    (c.mark.ensures _ (stand_at s c.loop-e.e c.loop-e-test.true))

pub returns : goal.returns
returns c = λ refs s.
    let n = stand_length s in
    let e : c.loop-e.e ≡ length refs = omega arith in
    let m = rw e at (c.loop-e.invariant refs s) in (
      marked_links _ refs _ _ (length refs) refl m (omega (arith, c.requires.2)) (omega (arith, c.requires.0.few)),
      marked_named _ refs _ c.loop-e.next (length refs) refl m,
    )
