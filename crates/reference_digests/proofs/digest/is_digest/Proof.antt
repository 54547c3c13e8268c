-- `reference_digests::digest::is_digest` meets its contract.
-- Assumes nothing.
use Rattle.reference_digests.proofs.Forms.{digest_test, no_digest_test}
use borrow.Author.Rules.{rules}
use Rattle.reference_digests.proofs.digest.is_digest.Statement.{statement}
use Rattle.reference_digests.proofs.digest.is_digest.Tie as tie

returns-then-digits-hex_digits : tie.Need-returns-then-digits-hex_digits
returns-then-digits-hex_digits c = let x = c.args in digest_test x.a x.digits _ x.hex c.hex_digits.ensures c.if-digits-hex_digits.true

returns-else-digits-hex_digits : tie.Need-returns-else-digits-hex_digits
returns-else-digits-hex_digits c = let x = c.args in no_digest_test x.a x.digits _ x.hex c.hex_digits.ensures c.if-digits-hex_digits.false

pub is_digest_spec : {M : Type 1} → statement M
is_digest_spec =
    tie.close (tie.spec (λ c κs. search rules) returns-then-digits-hex_digits returns-else-digits-hex_digits)
