-- `text_chars::byte_size` meets its contract: the byte is one of the two that are escaped, or neither.
-- Assumes nothing.
use mathlib.Core.Path.{refl}
use mathlib.Core.Logic.{inl, inr, ⊎_elim}
use native.Mathlib.Omega.{arith}
use borrow.Author.Tests.{ne_eqb}
use Rattle.text_json.specs.Content.{escaped}
use Rattle.text_chars.proofs.byte_size.Statement.{statement}
use Rattle.text_chars.proofs.byte_size.Tie as tie

returns-in-34 : tie.Need-returns-in-34
unfolding escaped
returns-in-34 c = ⊎_elim (λ e. rw e (refl, omega arith)) (λ e. rw e (refl, omega arith)) c.in-34.is

returns-in_default : tie.Need-returns-in_default
unfolding escaped
returns-in_default c =
    let other = c.in_default.in_default-own.rest.1 in
    rw (escaped, ne_eqb _ 0x22 (λ e. other (inl e)), ne_eqb _ 0x5C (λ e. other (inr e))) (refl, omega arith)

pub byte_size_spec : {M : Type 1} → statement M
byte_size_spec =
    tie.close (tie.spec returns-in-34 returns-in_default)
