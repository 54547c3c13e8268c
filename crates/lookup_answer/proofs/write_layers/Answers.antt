-- The number and the value of the first layer that fails are told, and else the digests are written if there is space. Assumes nothing.
use mathlib.Core.Path.{refl, sym}
use native.Mathlib.Omega.{arith}
use lib.Seq.{length-take-le}
use Rattle.manifest_objects.proofs.Standing.{stand_length}
use Rattle.lookup_answer.proofs.Answering.{fails_resolves, space_resolves, all_resolves, met_counted}
use Rattle.lookup_answer.proofs.write_layers.Goals as goal

pub overflow_sub-count : goal.overflow_sub-count
overflow_sub-count c = let p = c.requires.is in omega (arith, p.few, stand_length p.stand)

pub check_all-requires : goal.check_all-requires
check_all-requires c = (c.requires, refl)

pub returns-in-Err : goal.returns-in-Err
returns-in-Err c = λ room refs ds r.
    let o = rw c.in-Err.is at (c.check_all.ensures room refs ds r) in
    fails_resolves _ o c.failed.ensures.number_value c.failed.ensures.out_unchanged

pub returns-then-out-length : goal.returns-then-out-length
returns-then-out-length c = λ room refs ds r.
    let f = rw c.in-Ok.is at (c.check_all.ensures room refs ds r) in
    space_resolves _ f.is (omega (arith, f.size, c.if-out-length.true)) c.refused.ensures.number_value c.refused.ensures.buffer_unchanged

pub slice_bounds-numbers-end : goal.slice_bounds-numbers-end
slice_bounds-numbers-end c = let p = c.requires.is in omega (arith, p.layers_few, stand_length p.stand, c.check_all.auto.numbers)

pub slice_bounds-write_all-end : goal.slice_bounds-write_all-end
slice_bounds-write_all-end c =
    let p = c.requires.is in
    sym (length-take-le _ _ (omega (arith, p.layers_few, stand_length p.stand, c.check_all.auto.numbers)))

pub write_all-requires : goal.write_all-requires
write_all-requires c =
    let p = c.requires in
    let f = rw c.in-Ok.is at (c.check_all.ensures p.room p.refs p.layers p.is) in
    record {
      refs = p.refs;
      stand = p.is.stand;
      digests = f.digests;
      met = met_counted p.layers p.room p.refs _ _ f (omega (arith, stand_length p.is.stand));
      space = omega (arith, f.size, c.if-out-length.false);
    }

pub returns-else-out-length : goal.returns-else-out-length
returns-else-out-length c = λ room refs ds r.
    let f = rw c.in-Ok.is at (c.check_all.ensures room refs ds r) in
    all_resolves _ f.is (omega (arith, f.size, c.if-out-length.false)) (refl, f.size)
    (c.write_all.ensures refs f.digests r.stand (met_counted ds room refs _ _ f (omega (arith, stand_length r.stand))))
