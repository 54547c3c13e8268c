-- `test_references::show_digest` meets its contract: where a digest is found, it can be written and compared.
-- Assumes nothing.
use Prim.Native.Nat.{◌≤◌}
use native.Mathlib.Omega.{arith}
use borrow.Author.Rules.{rules}
use Rattle.reference_digests.proofs.Digests.{digest_bounds}
use Rattle.test_references.proofs.show_digest.Statement.{statement}
use Rattle.test_references.proofs.show_digest.Tie as tie

-- a digest fits the buffer, and has two bytes at least
few : (c : tie.After-digest_bytes-n) → (28 ≤ c.digest_bytes-n.result) × (c.digest_bytes-n.result ≤ 48)
few c =
    let d = digest_bounds c.args.a in
    let e = c.digest_bytes-n.ensures.0 in
    (omega arith, omega arith)

write-requires : tie.Need-write-requires
write-requires c κs = let a = c.before.before.before in (a.requires, omega (arith, (digest_bounds a.args.a).1))

slice_bounds-print_digest-count : tie.Need-slice_bounds-print_digest-count
slice_bounds-print_digest-count c = let f = few c.before.before.before in omega arith

slice_bounds-print_digest-start : tie.Need-slice_bounds-print_digest-start
slice_bounds-print_digest-start c = let f = few c.before.before.before in omega arith

slice_bounds-print_digest-end : tie.Need-slice_bounds-print_digest-end
slice_bounds-print_digest-end c = let f = few c.before.before.before in omega arith

slice_bounds-show_is-count : tie.Need-slice_bounds-show_is-count
slice_bounds-show_is-count c = let f = few c.before.before.before.before.before in omega arith

slice_bounds-show_is-start : tie.Need-slice_bounds-show_is-start
slice_bounds-show_is-start c = let f = few c.before.before.before.before.before in omega arith

slice_bounds-show_is-end : tie.Need-slice_bounds-show_is-end
slice_bounds-show_is-end c = let f = few c.before.before.before.before.before in omega arith

show_is-requires : tie.Need-show_is-requires
show_is-requires c κs = c.requires

slice_bounds-show_is-count-2 : tie.Need-slice_bounds-show_is-count-2
slice_bounds-show_is-count-2 c = let f = few c.before.before.before.before.before.before.before in omega arith

slice_bounds-show_is-start-2 : tie.Need-slice_bounds-show_is-start-2
slice_bounds-show_is-start-2 c = let f = few c.before.before.before.before.before.before.before in omega arith

slice_bounds-show_is-end-2 : tie.Need-slice_bounds-show_is-end-2
slice_bounds-show_is-end-2 c = let f = few c.before.before.before.before.before.before.before in omega arith

show_is-requires-2 : tie.Need-show_is-requires-2
show_is-requires-2 c κs = c.requires

change_last-requires : tie.Need-change_last-requires
change_last-requires c κs =
    let f = few c.before.before.before.before.before.before.before.before.before.before in
    (omega arith, omega arith)

slice_bounds-show_is-count-3 : tie.Need-slice_bounds-show_is-count-3
slice_bounds-show_is-count-3 c =
    let f = few c.before.before.before.before.before.before.before.before.before.before.before.before in
    omega arith

slice_bounds-show_is-start-3 : tie.Need-slice_bounds-show_is-start-3
slice_bounds-show_is-start-3 c =
    let f = few c.before.before.before.before.before.before.before.before.before.before.before.before in
    omega arith

slice_bounds-show_is-end-3 : tie.Need-slice_bounds-show_is-end-3
slice_bounds-show_is-end-3 c =
    let f = few c.before.before.before.before.before.before.before.before.before.before.before.before in
    omega arith

show_is-requires-3 : tie.Need-show_is-requires-3
show_is-requires-3 c κs =
    let d = c.before.before.before.before.before.before.before.before.before.before.before.before.before.before.before in
    d.requires

pub show_digest_spec : {M : Type 1} → statement M
show_digest_spec =
    tie.close (tie.spec (λ c κs. search rules) (λ c. search rules) write-requires slice_bounds-print_digest-count slice_bounds-print_digest-start
    slice_bounds-print_digest-end (λ c κs. search rules) slice_bounds-show_is-count slice_bounds-show_is-start slice_bounds-show_is-end
    show_is-requires slice_bounds-show_is-count-2 slice_bounds-show_is-start-2 slice_bounds-show_is-end-2 show_is-requires-2 (λ c. search rules)
    change_last-requires slice_bounds-show_is-count-3 slice_bounds-show_is-start-3 slice_bounds-show_is-end-3 show_is-requires-3 (λ c. search rules))
