-- `report_text::print::put_decimal` meets its contract. Assumes nothing.
use mathlib.Core.Path.{◌≡◌, ◌∙◌}
use native.Mathlib.Omega.{arith}
use lib.ListN.{take, length-take}
use Rattle.report_text.specs.Output.{decimal}
use Rattle.report_text.proofs.Decimals.{digits_decimal, twenty}
use borrow.Author.Rules.{rules}
use Rattle.report_text.proofs.print.put_decimal.Statement.{statement}
use Rattle.report_text.proofs.print.put_decimal.Tie as tie

put-requires : tie.Need-put-requires
put-requires c κs =
    let d = c.decimal-k in
    omega (arith, length-take d.result d.new.out, twenty _ _ c.ranges.n.fits d.ensures.1.0)

returns : tie.Need-returns
returns c =
    let t = c.decimal-k in
    let p = c.put.ensures in
    let s = c.before.before.before.before.before.before.before.before in
    let e : take t.result t.new.out ≡ decimal s.args.n = t.ensures.1.1.0 ∙ digits_decimal _ _ t.ensures.1.0 in
    (rw e at p, omega (arith, p.place, length-take t.result t.new.out, twenty _ _ s.ranges.n.fits t.ensures.1.0))

pub put_decimal_spec : {M : Type 1} → statement M
put_decimal_spec =
    tie.close (tie.spec (λ c κs. search rules) (λ c. search rules) (λ c. search rules) put-requires (λ c. search rules) returns)
