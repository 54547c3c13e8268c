-- `text_numbers::signed` meets its contract: a sign is passed over, and digits must follow.
-- Assumes nothing.
use Prim.Native.Nat.{◌+◌}
use mathlib.Core.Path.{sym, ◌∙◌}
use native.Mathlib.Omega.{arith}
use borrow.Author.Rules.{rules}
use Rattle.text_numbers.proofs.NumberSteps.{signed_end, signed_more, signed_stop}
use Rattle.text_numbers.proofs.Numerals.{reaches_from}
use Rattle.text_numbers.proofs.signed.Statement.{statement}
use Rattle.text_numbers.proofs.signed.Tie as tie

returns-then-s-at : tie.Need-returns-then-s-at
returns-then-s-at c = record { past = omega arith; inside = c.requires; read = signed_end _ _ c.if-s-at.true }

returns-then-is_sign : tie.Need-returns-then-is_sign
returns-then-is_sign c =
    let sign = c.before.before in
    let s = sign.args.s.now in
    let at = sign.args.at in
    let read = signed_more s at sign.if-s-at.false (sym sign.is_sign.ensures ∙ c.if-is_sign.true) in
    reaches_from s at (at + 1) _ _ c.some_digits.result (omega arith) read c.some_digits.ensures

returns-else-is_sign : tie.Need-returns-else-is_sign
returns-else-is_sign c =
    let sign = c.before.before in
    let s = sign.args.s.now in
    let at = sign.args.at in
    let read = signed_stop s at sign.if-s-at.false (sym sign.is_sign.ensures ∙ c.if-is_sign.false) in
    reaches_from s at at _ _ c.some_digits-else-is_sign.result (omega arith) read c.some_digits-else-is_sign.ensures

pub signed_spec : {M : Type 1} → statement M
signed_spec =
    tie.close (tie.spec returns-then-s-at (λ c. search rules) (λ c κs. search rules) (λ c. search rules) (λ c κs. search rules) (λ c κs. search rules) returns-then-is_sign
    returns-else-is_sign)
