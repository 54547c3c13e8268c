-- `text_canonical::separate` meets its contract. Assumes nothing.
use borrow.Author.Rules.{rules}
use mathlib.Core.Path.{ap}
use mathlib.Core.List.{append-nil}
use native.Mathlib.Omega.{arith}
use lib.ListN.{length}
use Rattle.laws.proofs.Writing as Written
use Rattle.laws.proofs.Writing.{byte_written}
use Rattle.text_canonical.proofs.Forms.{comma_none, comma_one}
use Rattle.text_canonical.proofs.separate.Statement.{statement}
use Rattle.text_canonical.proofs.separate.Tie as tie

returns-then-first : tie.Need-returns-then-first
returns-then-first c =
    let e = comma_none _ c.if-first.true in
    (omega (arith, ap length e), λ before done f w. rw (e, append-nil done) w)

bounds-out-n : tie.Need-bounds-out-n
bounds-out-n c = omega (arith, ap length (comma_one _ c.if-first.false), c.requires)

returns : tie.Need-returns
returns c =
    let e = comma_one _ c.if-first.false in
    (omega (arith, ap length e), λ before done f w. rw e (byte_written w _ 0x2C f (omega (arith, ap length e, c.requires, Written.same_length w))))

pub separate_spec : {M : Type 1} → statement M
separate_spec =
    tie.close (tie.spec returns-then-first bounds-out-n (λ c. search rules) (λ c. search rules) returns)
