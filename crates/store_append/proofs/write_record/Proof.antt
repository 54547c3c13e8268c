-- `store_append::write_record` meets its contract: after each step the bytes so far stand at the start of the buffer.
use Prim.Native.Nat.{ℕ, ◌+◌, ◌-◌, ◌≤◌}
use mathlib.Core.Path.{◌≡◌, sym, ap, ◌∙◌}
use mathlib.Core.List.{List, ◌++◌}
use native.Mathlib.Omega.{arith}
use borrow.Author.Rules.{rules}
use borrow.Rule.Slice.PartMut.{mid_of, put_mid, mid_len}
use lib.ListN.{length, take, drop, length-append}
use Rattle.reference.specs.References.{image_id}
use Rattle.store_record.specs.Image.{Image}
use Rattle.store_record.specs.Record.{head_of, record_of}
use Rattle.laws.specs.Writes.{Writes}
use Rattle.laws.proofs.Writing
use Rattle.laws.proofs.Writing.{lent_length, part_written}
use Rattle.store_append.specs.Append.{appended, image_with}
use Rattle.store_append.proofs.Appending.{record_parts, record_length, first_length, begun, ended}
use Rattle.store_append.proofs.write_record.Statement.{statement}
use Rattle.store_append.proofs.write_record.Tie as tie

-- what is given, and the parts of what is written
abbrev buffer : tie.Start → List ℕ
buffer a = a.args.store.now

abbrev text : tie.Start → List ℕ
text a = a.args.text.now

abbrev head : tie.Start → List ℕ
head a = head_of (image_id a.args.a a.args.signer.now a.args.digest.now) (length (text a))

abbrev its_image : tie.Start → Image
its_image a = image_with a.args.a a.args.signer.now a.args.digest.now (text a)

abbrev first : tie.Start → List ℕ
first a = take a.args.used (buffer a)

is_record : (a : tie.Start) → record_of (its_image a) ≡ head a ++ text a
is_record a = record_parts a.args.a a.args.signer.now a.args.digest.now (text a)

space : (a : tie.Start) → a.args.used + length (head a) + length (text a) ≤ length (buffer a)
space a =
    omega (arith, record_length a.args.a a.args.signer.now a.args.digest.now (text a), a.requires.fits.within, a.requires.fits.space)

-- the part that is lent for the head
lent : (a : tie.Start) → length (mid_of a.args.used (length (buffer a) - a.args.used) (buffer a)) ≡ length (buffer a) - a.args.used
lent a = mid_len a.args.used (length (buffer a)) (buffer a) (omega arith)

abbrev begin : tie.After-write_head-head → tie.Start
begin c = c.before.before.before.before.before.before

-- the buffer with the head
abbrev with_head : tie.After-write_head-head → List ℕ
with_head c = let a = begin c in put_mid a.args.used (length (buffer a) - a.args.used) (buffer a) c.write_head-head.new.out

abbrev at : tie.After-write_head-head → ℕ
at c = (begin c).args.used + c.write_head-head.result

head_written : (c : tie.After-write_head-head) → Writes (buffer (begin c)) (with_head c) (first (begin c) ++ head (begin c))
head_written c =
    let a = begin c in
    let w = a.requires.fits.within in
    part_written (begun (buffer a) a.args.used w) a.args.used _ (head a)
    (sym (first_length (buffer a) a.args.used w))
    (record {
      fits = omega (arith, lent a, space a);
      all = c.write_head-head.ensures.1
          ∙ ap (λ (k : ℕ). head a ++ drop k (mid_of a.args.used (length (buffer a) - a.args.used) (buffer a))) c.write_head-head.ensures.0;
    })

at_length : (c : tie.After-write_head-head) → at c ≡ length (first (begin c) ++ head (begin c))
at_length c =
    let a = begin c in
    omega (arith, c.write_head-head.ensures.0, length-append (first a) (head a), first_length (buffer a) a.args.used a.requires.fits.within)

text_fits : (c : tie.After-write_head-head) → length (text (begin c)) ≤ length (mid_of (at c) (length (with_head c) - at c) (with_head c))
text_fits c = omega (arith, lent_length (head_written c) (at c) (at_length c), space (begin c), c.write_head-head.ensures.0)

-- the buffer with the manifest
abbrev headed : tie.After-copy → tie.After-write_head-head
headed c = c.before.before.before.before

abbrev whole : tie.After-copy → List ℕ
whole c = let h = headed c in put_mid (at h) (length (with_head h) - at h) (with_head h) c.copy.new.out

all_written : (c : tie.After-copy) → let a = begin (headed c) in Writes (buffer a) (whole c) ((first a ++ head a) ++ text a)
all_written c =
    let h = headed c in
    part_written (head_written h) (at h) _ (text (begin h)) (at_length h) (record { fits = text_fits h; all = c.copy.ensures })

write_head-head-requires : tie.Need-write_head-head-requires
write_head-head-requires c κs =
    let a = c.before.before.before.before.before in
    (a.requires.digests.signer_size, a.requires.digests.digest_size, a.requires.short, omega (arith, lent a, space a))

overflow_add-at : tie.Need-overflow_add-at
overflow_add-at c =
    let h = c.before.before in
    let a = begin h in
    omega (arith, space a, h.write_head-head.ensures.0, a.well_formed.1.1.1.1.0.0)

slice_bounds-copy-count : tie.Need-slice_bounds-copy-count
slice_bounds-copy-count c =
    let h = c.before.before in
    omega (arith, space (begin h), h.write_head-head.ensures.0, Writing.same_length (head_written h))

slice_bounds-copy-start : tie.Need-slice_bounds-copy-start
slice_bounds-copy-start c = slice_bounds-copy-count c

copy-requires : tie.Need-copy-requires
copy-requires c κs = text_fits c.before.before.before

shape_of-store : tie.Need-shape_of-store
shape_of-store c = Writing.same_length (all_written c.before.before)

returns : tie.Need-returns
returns c =
    let w = c.before.before in
    let a = begin (headed w) in
    ended (buffer a) a.args.used a.requires.fits.within (head a) (text a) (whole w) (all_written w)
    ∙ ap (appended (buffer a) a.args.used) (sym (is_record a))

pub write_record_spec : {M : Type 1} → statement M
write_record_spec =
    tie.close (tie.spec (λ c. search rules) (λ c. search rules) (λ c. search rules) write_head-head-requires overflow_add-at slice_bounds-copy-count
    slice_bounds-copy-start (λ c. search rules) copy-requires shape_of-store returns)
