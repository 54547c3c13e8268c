use Rattle.std.proofs.Common.{drop}
use Rattle.std.proofs.lemmas.Result.{err_from_is_err_and}
use Rattle.text_json.specs.Read.{read}
use Rattle.text_scan.proofs.Results.{scans_value}
use Rattle.text_scan.proofs.Values.{text_stuck, text_junk, text_whole}
use Rattle.text_scan.proofs.Keys.{text_keys}
use Rattle.text_scan.proofs.text.Goals as goal

pub returns-in_err-v-clause-scans_value : goal.returns-in_err-v-clause-scans_value
returns-in_err-v-clause-scans_value c =
    let p = err_from_is_err_and c.from_residual.result c.from_residual.ensures.1 in
    let v = c.in_err-v.ensures.scans_value in
    rw (p.1, p.2) (text_stuck _ _ c.skip_spaces-at.ensures.1 _ v)

pub returns-then-end-s-clause-scans_value : goal.returns-then-end-s-clause-scans_value
returns-then-end-s-clause-scans_value c =
    let s = c.args.s.now in
    let v = scans_value s (read 8 (drop c.skip_spaces-at.result s)) c.in_ok-v.v c.in_ok-v.ensures.scans_value in
    text_junk _ _ c.skip_spaces-at.ensures.1 _ v _ c.skip_spaces-end.ensures.1 c.if-end-s.true

pub returns-clause-scans_value : goal.returns-clause-scans_value
returns-clause-scans_value c =
    let s = c.args.s.now in
    let v = scans_value s (read 8 (drop c.skip_spaces-at.result s)) c.in_ok-v.v c.in_ok-v.ensures.scans_value in
    text_whole _ _ c.skip_spaces-at.ensures.1 _ v _ c.skip_spaces-end.ensures.1 c.if-end-s.false

pub returns-clause-leaves_keys : goal.returns-clause-leaves_keys
returns-clause-leaves_keys c = text_keys _ _ _ _ c.skip_spaces-at.ensures.1 c.in_ok-v.ensures.leaves_keys
