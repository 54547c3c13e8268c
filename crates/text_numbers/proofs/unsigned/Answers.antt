-- What follows the int is read where the int ended, and the value, which is the int's or is with it above 32 bits, decides like the
-- int's own.
use Rattle.std.proofs.Common.{arith}
use Rattle.std.proofs.lemmas.Result.{err_from_is_err_and}
use mathlib.Core.Path.{◌∙◌}
use Rattle.text_json.specs.Read.{and_then}
use Rattle.text_json.proofs.Places.{scans_stuck}
use Rattle.text_numbers.proofs.Numerals.{signs_most, unsigned_tail, unsigned_token, unsigned_stuck}
use Rattle.text_numbers.proofs.unsigned.Goals as goal

pub returns-in_err-int : goal.returns-in_err-int
returns-in_err-int c =
    let p = err_from_is_err_and c.from_residual.result c.from_residual.ensures.1 in
    let int = c.in_err-int.ensures in
    rw (p.1, p.2) (int.past, scans_stuck _ _ int.inside _ _ _ (unsigned_stuck _ _ _ int.read))

pub tail-requires : goal.tail-requires
tail-requires c = let int = c.in_ok-int.ensures in int.inside

pub returns-in_err-rest : goal.returns-in_err-rest
unfolding and_then
returns-in_err-rest c =
    let p = err_from_is_err_and c.from_residual-in_err-rest.result c.from_residual-in_err-rest.ensures.1 in
    let int = c.in_ok-int.ensures in
    let rest = c.in_err-rest.ensures in
    let read = unsigned_tail c.args.negative _ int.digits _ int.read in
    rw (p.1, p.2) (omega (arith, int.some, rest.past), scans_stuck _ _ rest.inside _ _ _ (read ∙ rw rest.read))

pub overflow_sub-result : goal.overflow_sub-result
overflow_sub-result c = let int = c.in_ok-int.ensures in omega (arith, int.some)

pub overflow_add-result : goal.overflow_add-result
overflow_add-result c = let int = c.in_ok-int.ensures in omega (arith, int.inside, signs_most c.args.negative)

pub returns : goal.returns
returns c =
    let int = c.in_ok-int.ensures in
    let rest = c.in_ok-rest.ensures in (
      (omega (arith, int.some, rest.past), omega (arith, int.some, rest.past)),
      rw (c.refuses.ensures, c.sign_size.ensures) (unsigned_token c.args.negative c.in_ok-rest.rest.whole c.args.s.now c.args.at _ _ _ int rest),
    )
