-- The exponent is read where the fraction ended.
use Rattle.std.proofs.Common.{arith}
use Rattle.std.proofs.lemmas.Result.{err_from_is_err_and}
use Rattle.text_json.specs.Read.{and_then}
use Rattle.text_numbers.specs.Parts.{read_tail}
use Rattle.text_numbers.proofs.tail.Goals as goal

pub returns-in_err-fraction : goal.returns-in_err-fraction
unfolding read_tail and_then
returns-in_err-fraction c =
    let p = err_from_is_err_and c.from_residual.result c.from_residual.ensures.1 in
    let fraction = c.in_err-fraction.ensures in
    rw (p.1, p.2) (record { past = fraction.past; inside = fraction.inside; read = rw fraction.read })

pub exp-requires : goal.exp-requires
exp-requires c = let fraction = c.in_ok-fraction.ensures in fraction.inside

pub returns-in_err-exponent : goal.returns-in_err-exponent
unfolding read_tail and_then
returns-in_err-exponent c =
    let p = err_from_is_err_and c.from_residual-in_err-exponent.result c.from_residual-in_err-exponent.ensures.1 in
    let fraction = c.in_ok-fraction.ensures in
    let exponent = c.in_err-exponent.ensures in
    rw (p.1, p.2) (record { past = omega (arith, exponent.past, fraction.past); inside = exponent.inside; read = rw (fraction.read, exponent.read) })

pub returns : goal.returns
unfolding read_tail and_then
returns c =
    let fraction = c.in_ok-fraction.ensures in
    let exponent = c.in_ok-exponent.ensures in
    record { past = omega (arith, exponent.past, fraction.past); inside = exponent.inside; read = rw (fraction.read, exponent.read) }
