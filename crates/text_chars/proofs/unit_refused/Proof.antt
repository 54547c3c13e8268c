-- `text_chars::unit_refused` meets its contract: below 80 (hex) there are no surrogates, and from there on no control characters.
-- Assumes nothing.
use mathlib.Core.Bool.{or-false}
use native.Mathlib.Omega.{arith}
use borrow.Author.Tests.{lt-leb}
use borrow.Author.Rules.{rules}
use Rattle.text_json.specs.Bytes.{between}
use Rattle.text_json.specs.Content.{is_surrogate}
use Rattle.text_chars.proofs.Encoded.{control_one, control_high}
use Rattle.text_chars.proofs.unit_refused.Statement.{statement}
use Rattle.text_chars.proofs.unit_refused.Tie as tie

returns-then-u-lt128 : tie.Need-returns-then-u-lt128
unfolding is_surrogate between
returns-then-u-lt128 c =
    let small = c.if-u-lt128.true in
    rw (control_one _ small, lt-leb 0xD800 c.args.u (omega arith)) c.is_control.ensures

returns-else-u-lt128 : tie.Need-returns-else-u-lt128
unfolding is_surrogate
returns-else-u-lt128 c = rw (control_high _ c.if-u-lt128.false, or-false) c.between.ensures

pub unit_refused_spec : {M : Type 1} → statement M
unit_refused_spec =
    tie.close (tie.spec (λ c. search rules) (λ c κs. search rules) (λ c κs. search rules) returns-then-u-lt128 returns-else-u-lt128)
