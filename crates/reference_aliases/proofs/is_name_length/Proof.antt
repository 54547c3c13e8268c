-- `reference_aliases::is_name_length` meets its contract: the tests that were made say which case of the definition holds.
-- Assumes nothing.
use mathlib.Core.Path.{sym, ap, ◌∙◌}
use mathlib.Core.Bool.{Bool, not, ◌&&◌}
use native.Mathlib.Omega.{arith}
use Rattle.reference_aliases.specs.Aliases.{is_digest_length}
use Rattle.reference_aliases.proofs.Named.{no_bytes, too_many, some_bytes}
use borrow.Author.Rules.{rules}
use Rattle.reference_aliases.proofs.is_name_length.Statement.{statement}
use Rattle.reference_aliases.proofs.is_name_length.Tie as tie

returns-then-n-lt1 : tie.Need-returns-then-n-lt1
returns-then-n-lt1 c = sym (no_bytes _ _ c.if-n-lt1.true)

returns-then-n-gt255 : tie.Need-returns-then-n-gt255
returns-then-n-gt255 c = sym (too_many _ _ (omega arith) c.if-n-gt255.true)

returns-then-hex : tie.Need-returns-then-hex
returns-then-hex c =
    let a = c.args in
    ap not c.is_digest_length.ensures ∙ sym (some_bytes a.n a.hex (omega arith) (omega arith)
    ∙ ap (λ (b : Bool). not (b && is_digest_length a.n)) c.if-hex.true)

returns : tie.Need-returns
returns c =
    let a = c.args in
    sym (some_bytes a.n a.hex (omega arith) (omega arith) ∙ ap (λ (b : Bool). not (b && is_digest_length a.n)) c.if-hex.false)

pub is_name_length_spec : {M : Type 1} → statement M
is_name_length_spec =
    tie.close (tie.spec returns-then-n-lt1 returns-then-n-gt255 (λ c κs. search rules) returns-then-hex returns)
