-- `text_chars::unit_escape` meets its contract: a high surrogate's escape with a low one's after it weighs four bytes, and any
-- other escape weighs what its character does.
-- Assumes nothing.
use Prim.Native.Nat.{◌+◌}
use mathlib.Core.Path.{◌≡◌, sym, ◌∙◌}
use mathlib.Core.Logic.{⊎_elim}
use mathlib.Core.Bool.{false}
use mathlib.Core.List.{List}
use native.Mathlib.Omega.{arith}
use borrow.Author.Rules.{rules}
use lib.ListN.{drop}
use Rattle.text_json.specs.Syntax.{Char}
use Rattle.text_json.specs.Read.{Read, read_chars, char}
use Rattle.text_json.specs.Content.{is_high}
use Rattle.text_chars.specs.Measure.{paired}
use Rattle.text_chars.proofs.Weights.{measure_unit, measure_surrogates}
use Rattle.text_chars.proofs.Pairs.{paired_high}
use Rattle.text_chars.proofs.unit_escape.Statement.{statement}
use Rattle.text_chars.proofs.unit_escape.Tie as tie

-- what stands after the escape
abbrev next : tie.Start → Read (List Char)
next b = read_chars char (drop (b.args.at + 6) b.args.s.now)

-- past the tests: it is no second half
alone : (c : tie.Joined-between) → paired c.args.u (next c.before.before.before) ≡ false
unfolding is_high
alone c =
    let u = c.args.u in
    let x = next c.before.before.before in
    ⊎_elim (λ w. (rw w.if-low_half.false at w.low_half.ensures) u) (λ w. paired_high u x (sym c.between.ensures ∙ w.if-between.false)) c.if-between.branch-raw

returns-then-low_half : tie.Need-returns-then-low_half
unfolding is_high
returns-then-low_half c =
    let low = rw c.if-low_half.true at c.before.low_half.ensures in
    let u = c.args.u in
    let high = sym c.between.ensures ∙ c.if-between.true in
    (omega arith, omega arith, omega arith, rw low.1.2 (measure_surrogates u low.1.0 _ high low.1.1))

returns : tie.Need-returns
returns c =
    let u = c.args.u in
    (omega arith, omega arith, omega arith, rw (c.unit_refused.ensures, c.unit_size.ensures.0) (measure_unit u _ (alone c.before.before)))

pub unit_escape_spec : {M : Type 1} → statement M
unit_escape_spec =
    tie.close (tie.spec (λ c. search rules) (λ c κs. search rules) (λ c κs. search rules) (λ c. search rules) returns-then-low_half (λ c κs. search rules)
    (λ c κs. search rules) returns)
