use native.Mathlib.Omega.{arith}
use Rattle.manifest.specs.Opened.{no_places}
use Rattle.store_record.proofs.Walks.{records_size}
use Rattle.lookup_table.proofs.Joining.{linked_none, linked_all, linkable, linked_next}
use Rattle.lookup_table.proofs.link_all.Goals as goal

pub loop-j-init : goal.loop-j-init
loop-j-init c = linked_none _ _ _ _ _ _

pub link_image-requires : goal.link_image-requires
link_image-requires c =
    let l = c.loop-j in
    linkable _ _ _ _ _ _ (omega (arith, records_size c.args.v c.well_formed.1.0, c.requires.opened.fills.few)) l.j l.first l.next l.invariant
    c.loop-j-test.true _ _ _ _ _ _ _ c.requires l.auto.names l.auto.owners

pub overflow_add-first : goal.overflow_add-first
overflow_add-first c =
    let l = c.loop-j in
    let x =
    linkable _ _ _ _ _ _ (omega (arith, records_size c.args.v c.well_formed.1.0, c.requires.opened.fills.few)) l.j l.first l.next l.invariant
    c.loop-j-test.true _ _ no_places _ _ _ _ c.requires l.auto.names l.auto.owners in
    omega (arith, x.within, c.requires.counted.each l.j c.loop-j-test.true, c.requires.table.few)

pub loop-j-preserved : goal.loop-j-preserved
loop-j-preserved c =
    let l = c.loop-j in
    linked_next _ _ _ _ _ _ (omega (arith, records_size c.args.v c.well_formed.1.0, c.requires.opened.fills.few)) l.j l.first l.next l.invariant
    c.loop-j-test.true _ _ (c.requires.counted.each l.j c.loop-j-test.true) c.link_image.auto.next c.link_image.ensures

pub returns : goal.returns
returns c = λ ls t p.
    let l = c.loop-j in
    linked_all _ _ _ _ _ _ (omega (arith, records_size c.args.v c.well_formed.1.0, c.requires.opened.fills.few)) l.j l.first l.next l.invariant
    (omega arith) ls t p
