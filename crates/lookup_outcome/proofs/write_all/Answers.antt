-- One entry more is written with each step. Assumes nothing.
use mathlib.Core.Path.{refl}
use native.Mathlib.Omega.{arith}
use Rattle.laws.proofs.Writing as Parts
use Rattle.lookup_outcome.proofs.Writing.{written_none, number_within, digest_here, written_next, written_all}
use Rattle.lookup_outcome.proofs.Writing.{entry_space, entry_lent, entry_fits}
use Rattle.lookup_outcome.proofs.write_all.Goals as goal

pub loop-number-init : goal.loop-number-init
loop-number-init c = λ w. written_none _ _

pub bounds-keys-number : goal.bounds-keys-number
bounds-keys-number c = number_within c.requires _ c.loop-number-test.true

pub slice_bounds-write_entry-count : goal.slice_bounds-write_entry-count
slice_bounds-write_entry-count c =
    let f = c.loop-number.invariant c.requires in
    omega (arith, entry_lent c.requires _ c.loop-number-test.true refl f, Parts.same_length f.bytes)

pub slice_bounds-write_entry-start : goal.slice_bounds-write_entry-start
slice_bounds-write_entry-start c =
    let f = c.loop-number.invariant c.requires in
    omega (arith, entry_lent c.requires _ c.loop-number-test.true refl f, Parts.same_length f.bytes)

pub write_entry-n-requires : goal.write_entry-n-requires
write_entry-n-requires c = entry_fits c.requires _ c.loop-number-test.true refl (c.loop-number.invariant c.requires)

pub overflow_add-n : goal.overflow_add-n
overflow_add-n c =
    let e = c.write_entry-n.ensures _ (digest_here c.requires _ c.loop-number-test.true) in
    omega (arith, e.0, entry_space c.requires _ c.loop-number-test.true refl (c.loop-number.invariant c.requires), c.well_formed)

pub loop-number-preserved : goal.loop-number-preserved
loop-number-preserved c = λ w.
    let e = c.write_entry-n.ensures _ (digest_here w _ c.loop-number-test.true) in
    written_next w _ c.loop-number-test.true refl (c.loop-number.invariant w) _ _ e.0 e.1

pub returns : goal.returns
returns c = λ refs ds s m.
    let l = c.loop-number in
    written_all c.requires l.number-index l.n _ _ (omega (arith, c.loop-number-test.false)) (l.invariant c.requires) refs ds s m
