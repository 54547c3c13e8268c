-- The algorithm's byte is written, and the digest behind it. Assumes nothing.
use Prim.Native.Nat.{ℕ, ◌+◌, ◌≤◌}
use mathlib.Core.Path.{refl, sym, ap, ◌∙◌}
use mathlib.Core.List.{◌++◌}
use native.Mathlib.Omega.{arith}
use lib.ListN.{length, drop, length-set}
use Rattle.reference_digests.specs.Algorithms.{digest_bytes}
use Rattle.lookup_layers.specs.Layers.{entry_of}
use Rattle.lookup_outcome.proofs.Meeting.{some_reference}
use Rattle.lookup_outcome.proofs.Entries.{digits_read, stands_no_alias, stands_no_bad, entry_size, digest_fits, entry_written}
use Rattle.lookup_outcome.proofs.write_entry.Goals as goal

pub read-requires : goal.read-requires
read-requires c = some_reference c.requires.stands

pub bounds-out-0 : goal.bounds-out-0
bounds-out-0 c =
    let x = rw (c.in-Some-Digest.is, c.in-Some-Digest.field-0-is) at (c.read.ensures _ c.requires.stands.stands) in
    omega (arith, c.requires.space, entry_size (digits_read x.reads.0.digest (sym x.reads.1 ∙ x.is)) _ refl)

pub slice_bounds-write-count : goal.slice_bounds-write-count
slice_bounds-write-count c =
    let x = rw (c.in-Some-Digest.is, c.in-Some-Digest.field-0-is) at (c.read.ensures _ c.requires.stands.stands) in
    omega (
      arith,
      c.requires.space,
      entry_size (digits_read x.reads.0.digest (sym x.reads.1 ∙ x.is)) _ refl,
      length-set c.args.out.now 0 c.byte.result,
    )

pub slice_bounds-write-start : goal.slice_bounds-write-start
slice_bounds-write-start c =
    let x = rw (c.in-Some-Digest.is, c.in-Some-Digest.field-0-is) at (c.read.ensures _ c.requires.stands.stands) in
    omega (
      arith,
      c.requires.space,
      entry_size (digits_read x.reads.0.digest (sym x.reads.1 ∙ x.is)) _ refl,
      length-set c.args.out.now 0 c.byte.result,
    )

pub write-requires : goal.write-requires
write-requires c =
    let x = rw (c.in-Some-Digest.is, c.in-Some-Digest.field-0-is) at (c.read.ensures _ c.requires.stands.stands) in
    let y = digits_read x.reads.0.digest (sym x.reads.1 ∙ x.is) in
    let room : 1 + digest_bytes c.in-Some-Digest.a ≤ length c.args.out.now = omega (arith, c.requires.space, entry_size y _ refl) in
    (x.reads.0, digest_fits y c.args.out.now room _ c.byte.ensures)

pub returns-in-Some-Digest : goal.returns-in-Some-Digest
returns-in-Some-Digest c = λ d s.
    let z = rw (c.in-Some-Digest.is, c.in-Some-Digest.field-0-is) at (c.read.ensures _ c.requires.stands.stands) in
    let room : 1 + digest_bytes c.in-Some-Digest.a ≤ length c.args.out.now
    = omega (arith, c.requires.space, entry_size (digits_read z.reads.0.digest (sym z.reads.1 ∙ z.is)) _ refl) in
    let x = rw (c.in-Some-Digest.is, c.in-Some-Digest.field-0-is) at (c.read.ensures _ s.stands) in
    let y = digits_read x.reads.0.digest (sym x.reads.1 ∙ x.is) in
    let e = entry_size y _ c.digest_bytes.ensures.0 in
    (e, (entry_written y _ room _ c.byte.ensures _ c.write.ensures).all ∙ ap (λ (n : ℕ). entry_of d ++ drop n c.args.out.now) (sym e))

pub returns-in-Some-Alias : goal.returns-in-Some-Alias
returns-in-Some-Alias c = λ d s. stands_no_alias _ _ d s _ _ _ (rw (c.in-Some-Alias.is, c.in-Some-Alias.field-0-is) at c.read.ensures)

pub returns-in-None : goal.returns-in-None
returns-in-None c = λ d s. stands_no_bad _ _ d s (rw c.in-None.is at c.read.ensures)
