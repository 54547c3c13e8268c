-- `test_references::show_plain_digest` meets its contract: where an Image ID's digest is found, it can be written.
-- Assumes nothing.
use Prim.Native.Nat.{◌≤◌}
use native.Mathlib.Omega.{arith}
use borrow.Author.Rules.{rules}
use Rattle.reference_digests.proofs.Digests.{digest_bounds}
use Rattle.test_references.proofs.show_plain_digest.Statement.{statement}
use Rattle.test_references.proofs.show_plain_digest.Tie as tie

-- a digest fits the buffer, and has two bytes at least
few : (c : tie.After-digest_bytes-n) → (28 ≤ c.digest_bytes-n.result) × (c.digest_bytes-n.result ≤ 48)
few c =
    let d = digest_bounds c.args.a in
    let e = c.digest_bytes-n.ensures.0 in
    (omega arith, omega arith)

write_plain-requires : tie.Need-write_plain-requires
write_plain-requires c κs = let a = c.before.before.before in (a.requires, omega (arith, (digest_bounds a.args.a).1))

slice_bounds-print_digest-count : tie.Need-slice_bounds-print_digest-count
slice_bounds-print_digest-count c = let f = few c.before.before.before in omega arith

slice_bounds-print_digest-start : tie.Need-slice_bounds-print_digest-start
slice_bounds-print_digest-start c = let f = few c.before.before.before in omega arith

slice_bounds-print_digest-end : tie.Need-slice_bounds-print_digest-end
slice_bounds-print_digest-end c = let f = few c.before.before.before in omega arith

pub show_plain_digest_spec : {M : Type 1} → statement M
show_plain_digest_spec =
    tie.close (tie.spec (λ c κs. search rules) (λ c. search rules) write_plain-requires slice_bounds-print_digest-count slice_bounds-print_digest-start
    slice_bounds-print_digest-end (λ c κs. search rules) (λ c. search rules))
