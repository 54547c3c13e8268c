-- The parts are read one after the other.
-- Assumes nothing.
use borrow.Author.Tests.{not-true, not-false}
use Rattle.reference.proofs.Forms.{id_parts}
use Rattle.reference.proofs.Steps.{plain_one, plain_two, plain_past, id_none, id_reads}
use Rattle.reference.proofs.id.read.Goals as goal

pub returns-then-hash : goal.returns-then-hash
returns-then-hash c = (id_parts _).one (plain_one _ _ c.read_plain-hash.ensures.0 c.if-hash.true)

pub returns-then-signer : goal.returns-then-signer
returns-then-signer c =
    (id_parts _).two _ _ (plain_two _ _ c.read_plain-hash.ensures.0 c.if-hash.false _ c.read_plain-signer.ensures.0 c.if-signer.true)

pub returns-then-not-manifest : goal.returns-then-not-manifest
returns-then-not-manifest c =
    (id_parts _).four _ _ _ _ (plain_past _ _ c.read_plain-hash.ensures.0 c.if-hash.false _ c.read_plain-signer.ensures.0 c.if-signer.false _
    c.read_plain-manifest.ensures.0 (not-true _ c.if-not-manifest.true))

pub returns-in_err-algorithm : goal.returns-in_err-algorithm
returns-in_err-algorithm c =
    rw c.from_residual.ensures (id_none _ _ c.read_plain-hash.ensures.0 c.if-hash.false _ c.read_plain-signer.ensures.0 c.if-signer.false _
    c.read_plain-manifest.ensures.0 (not-false _ c.if-not-manifest.false) _ c.named.ensures c.in_err-algorithm.was)

pub returns : goal.returns
returns c =
    id_reads _ _ c.read_plain-hash.ensures.0 c.if-hash.false _ c.read_plain-signer.ensures.0 c.if-signer.false _
    c.read_plain-manifest.ensures.0 (not-false _ c.if-not-manifest.false) _ c.named.ensures c.read_plain-hash.ensures.1
    c.read_plain-signer.ensures.1 _ c.in_ok-algorithm.was c.under.result
    (c.under.ensures _ _ c.read_plain-signer.ensures.0.counts c.read_plain-manifest.ensures.0.counts)
