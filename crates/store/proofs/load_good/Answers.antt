-- The digests that are written are those of the Image ID. Assumes nothing.
use mathlib.Core.Path.{sym}
use native.Mathlib.Omega.{arith}
use Rattle.reference_digests.proofs.Digests.{digest_bounds}
use Rattle.store.proofs.Steps.{refused_loads, bad_id, image_loads, written_id}
use Rattle.store.proofs.load_good.Goals as goal

pub returns-in_default : goal.returns-in_default
returns-in_default c =
    let r = c.refused.ensures in
    let e = rw c.in_default.is at c.read.ensures in
    refused_loads (sym (bad_id _ _ c.args.id.now c.args.text.now e)) (λ z. omega arith) r.number_value r.buffer_unchanged

pub write_plain-requires : goal.write_plain-requires
write_plain-requires c =
    let k = rw c.in-Some.is at c.read.ensures in
    (k.0, (digest_bounds c.in-Some.image.algorithm).1)

pub returns : goal.returns
returns c =
    let k = rw c.in-Some.is at c.read.ensures in
    image_loads _ _ c.args.id.now c.args.text.now c.requires.0.own _ _ _
    (written_id _ c.in-Some.image.algorithm _ _ _ _ _ _ _ c.digest_bytes-n.ensures.0 k.0.digest k.1.digest k.2 c.write_plain.ensures
    c.write_plain-2.ensures)
    c.load_image.ensures
