-- The bytes that were written are those of the digest that stands there. Assumes nothing.
use mathlib.Core.Path.{sym, ◌∙◌}
use native.Mathlib.Omega.{arith}
use lib.Seq.{length-take-le}
use Rattle.reference_digests.proofs.Digests.{digest_bounds}
use Rattle.lookup_outcome.proofs.Meeting.{some_reference}
use Rattle.lookup_outcome.proofs.Entries.{digits_read, stands_no_alias, stands_no_bad, size_present, size_absent}
use Rattle.lookup_outcome.proofs.size_if_present.Goals as goal

pub read-requires : goal.read-requires
read-requires c = some_reference c.requires.0.stands

pub write-requires : goal.write-requires
write-requires c =
    let x = rw (c.in-Some-Digest.is, c.in-Some-Digest.field-0-is) at (c.read.ensures _ c.requires.0.stands.stands) in
    (x.reads.0, (digest_bounds c.in-Some-Digest.a).1)

pub slice_bounds-bytes-end : goal.slice_bounds-bytes-end
slice_bounds-bytes-end c = omega (arith, c.digest_bytes-n.ensures.0, (digest_bounds c.in-Some-Digest.a).1)

pub slice_bounds-has-end : goal.slice_bounds-has-end
slice_bounds-has-end c =
    sym (length-take-le c.digest_bytes-n.result _ (omega (arith, c.digest_bytes-n.ensures.0, (digest_bounds c.in-Some-Digest.a).1)))

pub returns-then-has : goal.returns-then-has
returns-then-has c = λ d ds s l.
    let x = rw (c.in-Some-Digest.is, c.in-Some-Digest.field-0-is) at (c.read.ensures _ s.stands) in
    size_present (digits_read x.reads.0.digest (sym x.reads.1 ∙ x.is)) _ c.digest_bytes-n.ensures.0 _ _ c.write.ensures ds _
    (c.has.ensures ds l) c.if-has.true

pub returns-else-has : goal.returns-else-has
returns-else-has c = λ d ds s l.
    let x = rw (c.in-Some-Digest.is, c.in-Some-Digest.field-0-is) at (c.read.ensures _ s.stands) in
    size_absent (digits_read x.reads.0.digest (sym x.reads.1 ∙ x.is)) _ c.digest_bytes-n.ensures.0 _ _ c.write.ensures ds _
    (c.has.ensures ds l) c.if-has.false

pub returns-in-Some-Alias : goal.returns-in-Some-Alias
returns-in-Some-Alias c = λ d ds s l. stands_no_alias _ _ d s _ _ _ (rw (c.in-Some-Alias.is, c.in-Some-Alias.field-0-is) at c.read.ensures)

pub returns-in-None : goal.returns-in-None
returns-in-None c = λ d ds s l. stands_no_bad _ _ d s (rw c.in-None.is at c.read.ensures)
