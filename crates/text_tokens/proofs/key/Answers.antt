use Rattle.std.proofs.Common.{arith, [], ◌∷◌, drop}
use Rattle.std.proofs.lemmas.Result.{err_from_is_err_and}
use Rattle.text_json.specs.Read.{read_string, read_word}
use Rattle.text_json.specs.Content.{refused_string}
use Rattle.text_json.specs.Size.{string_size}
use Rattle.text_json.proofs.Places.{token_inside}
use Rattle.text_tokens.proofs.Follow.{key_none, key_no_colon, key_found, two_marks, colon_later, steps_inside}
use Rattle.text_tokens.proofs.key.Goals as goal

pub returns-in_err-name : goal.returns-in_err-name
returns-in_err-name c =
    let p = err_from_is_err_and c.from_residual.result c.from_residual.ensures.1 in
    let name = c.in_err-name.ensures in
    rw (p.1, p.2) (name.0, key_none c.args.s.now c.args.at _ name.1)

pub skip_spaces-colon-requires : goal.skip_spaces-colon-requires
skip_spaces-colon-requires c =
    let name = c.in_ok-name.ensures in
    token_inside refused_string string_size c.args.s.now (read_string (drop c.args.at c.args.s.now)) _ name.1

pub returns-in_err-after : goal.returns-in_err-after
returns-in_err-after c =
    let p = err_from_is_err_and c.from_residual-in_err-after.result c.from_residual-in_err-after.ensures.1 in
    let name = c.in_ok-name.ensures in
    let colon = c.in_err-after.ensures in
    rw (p.1, p.2) (
      omega (arith, name.0.0, c.skip_spaces-colon.ensures.0, colon.0),
      key_no_colon c.args.s.now c.args.at _ _ name.1 c.skip_spaces-colon.ensures.1 _ colon.1,
    )

pub skip_spaces-requires : goal.skip_spaces-requires
skip_spaces-requires c =
    let colon = c.in_ok-after.ensures in
    steps_inside c.args.s.now (read_word (0x3A ∷ []) (drop c.skip_spaces-colon.result c.args.s.now)) _ colon.1

pub returns : goal.returns
returns c =
    let s = c.args.s.now in
    let name = c.in_ok-name.ensures in
    let colon = c.in_ok-after.ensures in
    let two = two_marks s (read_string (drop c.args.at s)) _ name.1 in
    let later = colon_later s c.skip_spaces-colon.result _ colon.1 in (
      omega (arith, name.0, two, later, c.skip_spaces-colon.ensures.0, c.skip_spaces.ensures.0),
      key_found s c.args.at _ _ name.1 c.skip_spaces-colon.ensures.1 _ _ colon.1 c.skip_spaces.ensures.1,
    )
