-- `reference_aliases::is_digest_length` meets its contract.
-- Assumes nothing.
use mathlib.Core.Path.{sym, ◌∙◌}
use Rattle.reference_aliases.proofs.Named.{known_length, other_length, lengths_known}
use borrow.Author.Rules.{rules}
use Rattle.reference_aliases.proofs.is_digest_length.Statement.{statement}
use Rattle.reference_aliases.proofs.is_digest_length.Tie as tie

returns-then-n-short : tie.Need-returns-then-n-short
returns-then-n-short c = known_length _ _ _ c.hex_digits-short.ensures c.if-n-short.true lengths_known.0

returns-then-n-middle : tie.Need-returns-then-n-middle
returns-then-n-middle c = known_length _ _ _ c.hex_digits-middle.ensures c.if-n-middle.true lengths_known.1

returns-then-n-long : tie.Need-returns-then-n-long
returns-then-n-long c = known_length _ _ _ c.hex_digits-long.ensures c.if-n-long.true lengths_known.2

returns-else-n-long : tie.Need-returns-else-n-long
returns-else-n-long c =
    let h = c.before.before.before in
    other_length _ (λ e. c.if-n-short.false (e ∙ sym h.hex_digits-short.ensures))
    (λ e. c.if-n-middle.false (e ∙ sym h.hex_digits-middle.ensures))
    (λ e. c.if-n-long.false (e ∙ sym h.hex_digits-long.ensures))

pub is_digest_length_spec : {M : Type 1} → statement M
is_digest_length_spec =
    tie.close (tie.spec (λ c κs. search rules) (λ c κs. search rules) (λ c κs. search rules) returns-then-n-short returns-then-n-middle returns-then-n-long returns-else-n-long)
