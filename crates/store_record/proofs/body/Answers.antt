-- One law for each answer, by what stands at the position.
use Rattle.std.proofs.Common.{sym}
use Rattle.store_record.proofs.Reading.{no_body, unknown_body, cut_body, whole_body}
use Rattle.store_record.proofs.body.Goals as goal

pub returns-then-i-end : goal.returns-then-i-end
returns-then-i-end c = no_body c.args.s.now c.args.i c.args.end c.requires.0 c.requires.1 c.if-i-end.true

pub returns-in_err-algorithm : goal.returns-in_err-algorithm
returns-in_err-algorithm c =
    rw c.from_residual.ensures (unknown_body c.args.s.now c.args.i c.args.end c.requires.0 c.requires.1 c.if-i-end.false (sym c.in_err-algorithm.ensures))

pub returns-then-end-signer : goal.returns-then-end-signer
returns-then-end-signer c =
    cut_body c.args.s.now c.args.i c.args.end c.requires.0 c.requires.1 c.if-i-end.false _ (sym c.in_ok-algorithm.ensures) _
    c.digest_bytes-n.ensures.0 c.if-end-signer.true

pub returns : goal.returns
returns c =
    whole_body c.args.s.now c.args.i c.args.end c.requires.0 c.requires.1 c.if-i-end.false _ (sym c.in_ok-algorithm.ensures) _
    c.digest_bytes-n.ensures.0 c.if-end-signer.false
