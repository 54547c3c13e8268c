-- The parts are read one after the other.
-- Assumes nothing.
use borrow.Author.Tests.{not-true, not-false}
use Rattle.reference.proofs.Forms.{rule_parts}
use Rattle.reference.proofs.Steps.{at_last, two_parts, past_three, rule_none, rule_known}
use Rattle.reference.proofs.rule.read.Goals as goal

pub returns-then-hash : goal.returns-then-hash
returns-then-hash c = (rule_parts _).one (at_last _ _ _ c.read-hash.ensures c.if-hash.true)

pub returns-then-signer : goal.returns-then-signer
returns-then-signer c =
    (rule_parts _).two _ _ (two_parts _ _ _ _
    (record { here = c.requires; first = c.read-hash.ensures; more = c.if-hash.false; second = c.read-signer.ensures })
    c.if-signer.true)

pub returns-then-not-manifest : goal.returns-then-not-manifest
returns-then-not-manifest c =
    (rule_parts _).four _ _ _ _ (past_three _ _ _ _
    (record { here = c.requires; first = c.read-hash.ensures; more = c.if-hash.false; second = c.read-signer.ensures }) _
    (record { here = c.read-hash.ensures.inside; first = c.read-signer.ensures; more = c.if-signer.false; second = c.read-manifest.ensures })
    (not-true _ c.if-not-manifest.true))

pub under-requires : goal.under-requires
under-requires c = (
  record { here = c.read-hash.ensures.inside; first = c.read-signer.ensures; more = c.if-signer.false; second = c.read-manifest.ensures },
  not-false _ c.if-not-manifest.false,
)

pub returns-in_err-algorithm : goal.returns-in_err-algorithm
returns-in_err-algorithm c =
    rw c.from_residual.ensures (rule_none _ _ _ _
    (record { here = c.requires; first = c.read-hash.ensures; more = c.if-hash.false; second = c.read-signer.ensures }) _
    (record { here = c.read-hash.ensures.inside; first = c.read-signer.ensures; more = c.if-signer.false; second = c.read-manifest.ensures })
    _ (not-false _ c.if-not-manifest.false) c.named.ensures c.in_err-algorithm.was)

pub returns : goal.returns
returns c =
    rule_known _ _ _ _
    (record { here = c.requires; first = c.read-hash.ensures; more = c.if-hash.false; second = c.read-signer.ensures }) _
    (record { here = c.read-hash.ensures.inside; first = c.read-signer.ensures; more = c.if-signer.false; second = c.read-manifest.ensures })
    _ (not-false _ c.if-not-manifest.false) c.named.ensures _ c.in_ok-algorithm.was c.under.result c.under.ensures
