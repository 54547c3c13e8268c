-- `store_write::write_head` meets its contract: after each step the bytes so far stand at the start of the slice.
use borrow.Author.Rules.{rules}
use Prim.Native.Nat.{ℕ, ◌+◌, ◌-◌, ◌*◌, ◌≤◌}
use mathlib.Core.Path.{◌≡◌, sym, ap, subst, ◌∙◌}
use mathlib.Core.List.{List, [], ◌∷◌, ◌++◌}
use native.Mathlib.Omega.{arith}
use lib.ListN.{length, drop, set, length-append}
use borrow.Rule.Slice.PartMut.{mid_of, put_mid}
use Rattle.laws.specs.Writes.{Writes}
use Rattle.laws.proofs.Writing
use Rattle.laws.proofs.Writing.{lent_length, byte_written, part_written}
use Rattle.store_varint.specs.Varint.{varint}
use Rattle.store_varint.proofs.Laws.{varint_short}
use Rattle.reference.specs.References.{image_id}
use Rattle.store_record.specs.Record.{head_of}
use Rattle.store_write.proofs.Heads.{head_is, head_length}
use Rattle.store_write.proofs.write_head.Statement.{statement}
use Rattle.store_write.proofs.write_head.Tie as tie

-- the digests' length, the number that is written, and its bytes
abbrev digest : tie.After-digest_bytes-n → ℕ
digest c = c.digest_bytes-n.result

abbrev start : tie.After-digest_bytes-n → tie.Start
start c = c.before.before.before.before

abbrev number : tie.After-digest_bytes-n → List ℕ
number c = varint (1 + 2 * digest c + (start c).args.text)

abbrev out : tie.After-digest_bytes-n → List ℕ
out c = (start c).args.out.now

abbrev head : tie.After-digest_bytes-n → List ℕ
head c = let a = (start c).args in head_of (image_id a.a a.signer.now a.manifest.now) a.text

digest_size : (c : tie.After-digest_bytes-n) → length (start c).args.signer.now ≡ digest c
digest_size c = (start c).requires.0 ∙ sym c.digest_bytes-n.ensures.0

manifest_size : (c : tie.After-digest_bytes-n) → length (start c).args.manifest.now ≡ digest c
manifest_size c = (start c).requires.1 ∙ sym c.digest_bytes-n.ensures.0

size : (c : tie.After-digest_bytes-n) → length (head c) ≡ length (number c) + 1 + digest c + digest c
size c =
    let a = (start c).args in
    head_length a.a a.signer.now a.manifest.now a.text (digest c) c.digest_bytes-n.ensures.0 (start c).requires.0 (start c).requires.1

space : (c : tie.After-digest_bytes-n) → length (number c) + 1 + digest c + digest c ≤ length (out c)
space c = omega (arith, size c, (start c).requires.3)

-- the whole start of a record is short
short : (c : tie.After-digest_bytes-n) → length (number c) + 1 + digest c + digest c ≤ 1000
short c = let d = c.digest_bytes-n.ensures.1 in omega (
  arith,
  (start c).requires.2,
  varint_short (1 + 2 * digest c + (start c).args.text) (omega (arith, (start c).requires.2)),
)

number_written : (c : tie.After-write-k) → Writes (out c.before.before) c.write-k.new.out (number c.before.before)
number_written c = record { fits = omega (arith, space c.before.before); all = c.write-k.ensures.1 }

-- the slice with the algorithm's byte
abbrev begun : tie.After-byte → List ℕ
begun c = let w = c.write-k in set w.new.out w.result c.byte.result

abbrev sized : tie.After-byte → tie.After-digest_bytes-n
sized c = c.before.before.before.before.before

abbrev first : tie.After-byte → ℕ
first c = c.write-k.result + 1

first_written : (c : tie.After-byte) → Writes (out (sized c)) (begun c) (number (sized c) ++ c.byte.result ∷ [])
first_written c =
    let w = c.before.before.before in
    byte_written (number_written w) w.write-k.result c.byte.result w.write-k.ensures.0 (omega (arith, space w.before.before, w.write-k.ensures.0))

first_length : (c : tie.After-byte) → first c ≡ length (number (sized c) ++ c.byte.result ∷ [])
first_length c =
    let w = c.before.before.before in
    omega (arith, w.write-k.ensures.0, length-append (number w.before.before) (c.byte.result ∷ []))

signer_fits : (c : tie.After-byte) → length (start (sized c)).args.signer.now ≤ length (mid_of (first c) (length (begun c) - first c) (begun c))
signer_fits c =
    omega (
      arith,
      lent_length (first_written c) (first c) (first_length c),
      space (sized c),
      digest_size (sized c),
      c.write-k.ensures.0,
    )

-- the slice with the signer's digest
abbrev signed : tie.After-copy → List ℕ
signed c = let b = c.before.before in put_mid (first b) (length (begun b) - first b) (begun b) c.copy.new.out

abbrev second : tie.After-copy → ℕ
second c = first c.before.before + digest (sized c.before.before)

abbrev so_far : tie.After-copy → List ℕ
so_far c = let b = c.before.before in (number (sized b) ++ b.byte.result ∷ []) ++ (start (sized b)).args.signer.now

second_written : (c : tie.After-copy) → Writes (out (sized c.before.before)) (signed c) (so_far c)
second_written c =
    let b = c.before.before in
    part_written (first_written b) (first b) _ (start (sized b)).args.signer.now (first_length b) (record { fits = signer_fits b; all = c.copy.ensures })

second_length : (c : tie.After-copy) → second c ≡ length (so_far c)
second_length c =
    let b = c.before.before in
    omega (arith, first_length b, digest_size (sized b), length-append (number (sized b) ++ b.byte.result ∷ []) (start (sized b)).args.signer.now)

manifest_fits : (c : tie.After-copy) → length (start (sized c.before.before)).args.manifest.now ≤ length
    (mid_of (second c) (length (signed c) - second c) (signed c))
manifest_fits c =
    let b = c.before.before in
    omega (
      arith,
      lent_length (second_written c) (second c) (second_length c),
      space (sized b),
      manifest_size (sized b),
      b.write-k.ensures.0,
    )

-- the slice with both digests
abbrev whole : tie.After-copy-2 → List ℕ
whole c = let d = c.before.before.before.before in put_mid (second d) (length (signed d) - second d) (signed d) c.copy-2.new.out

all_written : (c : tie.After-copy-2) → Writes (out (sized c.before.before.before.before.before.before)) (whole c)
    (head (sized c.before.before.before.before.before.before))
all_written c =
    let d = c.before.before.before.before in
    let b = d.before.before in
    let a = (start (sized b)).args in
    subst (Writes (out (sized b)) (whole c))
    (ap (λ (k : ℕ). ((number (sized b) ++ k ∷ []) ++ a.signer.now) ++ a.manifest.now) b.byte.ensures
    ∙ sym (head_is a.a a.signer.now a.manifest.now a.text (digest (sized b)) (sized b).digest_bytes-n.ensures.0 (start (sized b)).requires.0
    (start (sized b)).requires.1))
    (part_written (second_written d) (second d) _ a.manifest.now (second_length d) (record { fits = manifest_fits d; all = c.copy-2.ensures }))

write-k-requires : tie.Need-write-k-requires
write-k-requires c κs = omega (arith, space c.before)

bounds-out-k : tie.Need-bounds-out-k
bounds-out-k c =
    let w = c.before.before.before in
    omega (arith, space w.before.before, w.write-k.ensures.0, Writing.same_length (number_written w))

overflow_add-first : tie.Need-overflow_add-first
overflow_add-first c =
    let w = c.before.before.before in
    omega (arith, short w.before.before, w.write-k.ensures.0)

slice_bounds-copy-count : tie.Need-slice_bounds-copy-count
slice_bounds-copy-count c =
    let w = c.before.before.before in
    omega (arith, space w.before.before, w.write-k.ensures.0, Writing.same_length (first_written c))

slice_bounds-copy-start : tie.Need-slice_bounds-copy-start
slice_bounds-copy-start c = slice_bounds-copy-count c

copy-requires : tie.Need-copy-requires
copy-requires c κs = signer_fits c.before

overflow_add-second : tie.Need-overflow_add-second
overflow_add-second c = let b = c.before.before.before.before in omega (arith, short (sized b), b.write-k.ensures.0)

slice_bounds-copy-count-2 : tie.Need-slice_bounds-copy-count-2
slice_bounds-copy-count-2 c =
    let d = c.before.before in
    let b = d.before.before in
    omega (arith, space (sized b), b.write-k.ensures.0, Writing.same_length (second_written d))

slice_bounds-copy-start-2 : tie.Need-slice_bounds-copy-start-2
slice_bounds-copy-start-2 c = slice_bounds-copy-count-2 c

copy-requires-2 : tie.Need-copy-requires-2
copy-requires-2 c κs = manifest_fits c.before.before.before

overflow_add-result : tie.Need-overflow_add-result
overflow_add-result c = let b = c.before.before.before.before.before.before.before.before in
    omega (arith, short (sized b), b.write-k.ensures.0)

shape_of-out : tie.Need-shape_of-out
shape_of-out c = Writing.same_length (all_written c.before.before)

returns : tie.Need-returns
returns c =
    let b = c.before.before.before.before.before.before.before.before in
    let d = sized b in
    let e : first b + digest d + digest d ≡ length (head d) = omega (arith, size d, b.write-k.ensures.0) in
    (e, (all_written c.before.before).all ∙ ap (λ (k : ℕ). head d ++ drop k (out d)) (sym e))

pub write_head_spec : {M : Type 1} → statement M
write_head_spec =
    tie.close (tie.spec (λ c κs. search rules) (λ c. search rules) (λ c. search rules) (λ c. search rules) write-k-requires (λ c κs. search rules)
    bounds-out-k overflow_add-first slice_bounds-copy-count slice_bounds-copy-start (λ c. search rules) copy-requires overflow_add-second
    slice_bounds-copy-count-2 slice_bounds-copy-start-2 (λ c. search rules) copy-requires-2 overflow_add-result shape_of-out returns)
