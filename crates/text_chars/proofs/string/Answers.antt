-- `chars` reads what follows the opening quotation mark.
use Rattle.std.proofs.Common.{arith, ◌+◌, drop}
use Rattle.std.proofs.lemmas.Result.{err_from_is_err_and}
use Rattle.text_json.specs.Read.{read_chars, char}
use Rattle.text_json.specs.Content.{refused_string}
use Rattle.text_json.specs.Size.{content_size}
use Rattle.text_json.proofs.Places.{scans_stuck, token_inside}
use Rattle.text_chars.proofs.CharSteps.{string_start, string_stop, string_end}
use Rattle.text_chars.proofs.Weights.{scans_quoted, scans_unquoted}
use Rattle.text_chars.proofs.string.Goals as goal

pub returns-then-s-at : goal.returns-then-s-at
returns-then-s-at c = (omega arith, scans_stuck _ _ c.requires _ _ _ (string_end _ _ c.if-s-at.true))

pub returns-then-s-at-ne34 : goal.returns-then-s-at-ne34
returns-then-s-at-ne34 c = (omega arith, scans_stuck _ _ c.requires _ _ _ (string_stop _ _ c.if-s-at.false c.if-s-at-ne34.true))

pub returns-in_err-content : goal.returns-in_err-content
returns-in_err-content c =
    let p = err_from_is_err_and c.from_residual.result c.from_residual.ensures.1 in
    let got = c.in_err-content.ensures in
    let start = string_start c.args.s.now c.args.at c.if-s-at.false c.if-s-at-ne34.false in
    rw (p.1, p.2) (omega arith, rw start (scans_unquoted c.args.s.now (read_chars char (drop (c.args.at + 1) c.args.s.now)) _ got.1))

pub overflow_add-result : goal.overflow_add-result
overflow_add-result c =
    let got = c.in_ok-content.ensures in
    omega (arith, token_inside refused_string content_size c.args.s.now (read_chars char (drop (c.args.at + 1) c.args.s.now)) _ got.1)

pub returns : goal.returns
returns c =
    let got = c.in_ok-content.ensures in
    let start = string_start c.args.s.now c.args.at c.if-s-at.false c.if-s-at-ne34.false in
    ((omega arith, omega arith), rw start (scans_quoted c.args.s.now (read_chars char (drop (c.args.at + 1) c.args.s.now)) _ _ _ got.1))
