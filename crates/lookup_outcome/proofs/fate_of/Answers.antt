-- The end of the path and the layer list make the fate. Assumes nothing.
use native.Mathlib.Omega.{arith}
use Rattle.manifest_objects.proofs.Standing.{stand_length}
use Rattle.lookup_outcome.proofs.Outcomes.{fate_undefined, fate_endless}
use Rattle.lookup_outcome.proofs.Fates.{met_within, some_met, fate_absent, fate_found}
use Rattle.lookup_outcome.proofs.fate_of.Goals as goal

pub follow-requires : goal.follow-requires
follow-requires c =
    let x = c.requires.0.is in
    record {
      keys = _;
      refs = c.requires.0.refs;
      links = x.links;
      within = omega (arith, c.requires.1, stand_length x.stand);
      few = x.few;
    }

pub offset_bounds-keys-number : goal.offset_bounds-keys-number
offset_bounds-keys-number c =
    let x = c.requires.0.is in
    let m = rw c.in-Met.is at (c.follow.ensures _ _ x.apart x.links x.count (omega (arith, c.requires.1, stand_length x.stand))) in
    omega (arith, m.within, x.links.few)

pub bounds-keys-number : goal.bounds-keys-number
bounds-keys-number c =
    let x = c.requires.0.is in
    let m = rw c.in-Met.is at (c.follow.ensures _ _ x.apart x.links x.count (omega (arith, c.requires.1, stand_length x.stand))) in
    met_within x.stand m

pub size_if_present-size-requires : goal.size_if_present-size-requires
size_if_present-size-requires c =
    let x = c.requires.0.is in
    let m = rw c.in-Met.is at (c.follow.ensures _ _ x.apart x.links x.count (omega (arith, c.requires.1, stand_length x.stand))) in
    (some_met x.stand m, record { layers = c.requires.0.layers; is = x.list })

pub returns-then-size-eq0 : goal.returns-then-size-eq0
returns-then-size-eq0 c = λ room refs ds x.
    let m = rw c.in-Met.is at (c.follow.ensures room refs x.apart x.links x.count (omega (arith, c.requires.1, stand_length x.stand))) in
    fate_absent x.stand m ds _ (λ d s. c.size_if_present-size.ensures d ds s x.list) c.if-size-eq0.true

pub returns-in-Undefined : goal.returns-in-Undefined
returns-in-Undefined c = λ room refs ds x.
    fate_undefined ds _
    (rw c.in-Undefined.is at (c.follow.ensures room refs x.apart x.links x.count (omega (arith, c.requires.1, stand_length x.stand))))

pub returns-in-Endless : goal.returns-in-Endless
returns-in-Endless c = λ room refs ds x.
    fate_endless ds _
    (rw c.in-Endless.is at (c.follow.ensures room refs x.apart x.links x.count (omega (arith, c.requires.1, stand_length x.stand))))

pub returns-else-size-eq0 : goal.returns-else-size-eq0
returns-else-size-eq0 c = λ room refs ds x.
    let m = rw c.in-Met.is at (c.follow.ensures room refs x.apart x.links x.count (omega (arith, c.requires.1, stand_length x.stand))) in
    fate_found x.stand m ds _ (λ d s. c.size_if_present-size.ensures d ds s x.list) c.if-size-eq0.false
