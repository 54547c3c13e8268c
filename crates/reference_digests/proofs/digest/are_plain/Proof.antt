-- `reference_digests::digest::are_plain` meets its contract.
-- Assumes nothing.
use native.Mathlib.Omega.{arith}
use borrow.Author.Tests.{not-true, eqb-false}
use Rattle.reference_digests.proofs.Hex.{byte_within, next_within, plain_pair}
use Rattle.reference_digests.proofs.digest.are_plain.Statement.{statement}
use Rattle.reference_digests.proofs.digest.are_plain.Tie as tie

bounds-s-j : tie.Need-bounds-s-j
bounds-s-j c = let a = c.before in byte_within _ _ a.requires.0 a.requires.1

overflow_add-result : tie.Need-overflow_add-result
overflow_add-result c =
    let a = c.before.before in
    omega (arith, next_within _ _ a.requires.0 a.requires.1 c.if-s-j-ne92.true, a.well_formed)

bounds-s-j-then-s-j-ne92 : tie.Need-bounds-s-j-then-s-j-ne92
bounds-s-j-then-s-j-ne92 c = let a = c.before.before.before in next_within _ _ a.requires.0 a.requires.1 c.if-s-j-ne92.true

returns-then-s-j-ne92 : tie.Need-returns-then-s-j-ne92
returns-then-s-j-ne92 c = λ e.
    let a = c.before.before.before in
    plain_pair _ _ a.requires.0 a.requires.1 c.if-s-j-ne92.true (eqb-false _ _ (not-true _ e))

returns-else-s-j-ne92 : tie.Need-returns-else-s-j-ne92
returns-else-s-j-ne92 c = λ e. absurd (eqb-false _ _ (not-true _ e) c.if-s-j-ne92.false)

pub are_plain_spec : {M : Type 1} → statement M
are_plain_spec =
    tie.close (tie.spec bounds-s-j overflow_add-result bounds-s-j-then-s-j-ne92 returns-then-s-j-ne92 returns-else-s-j-ne92)
