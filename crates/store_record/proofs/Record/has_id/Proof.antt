-- `store_record::Record::has_id` meets its contract.
use borrow.Author.Rules.{rules}
use mathlib.Core.Path.{◌∙◌}
use borrow.Author.Tests.{not-true, not-false}
use Rattle.store_record.specs.Reading.{between}
use Rattle.store_record.proofs.Ids.{not_signed, signed}
use Rattle.store_record.proofs.Record.has_id.Statement.{statement}
use Rattle.store_record.proofs.Record.has_id.Tie as tie

returns-then-not-is_signed_by : tie.Need-returns-then-not-is_signed_by
returns-then-not-is_signed_by c =
    let b = c.is_signed_by in
    let a = c.args in
    not_signed a.s.now a.self a.a a.signer.now a.manifest.now b.result b.ensures (not-true _ c.if-not-is_signed_by.true-raw)

returns : tie.Need-returns
unfolding between
returns c =
    let e = c.before.before in
    let b = e.is_signed_by in
    let a = e.args in
    c.equal.ensures ∙ signed a.s.now a.self a.a a.signer.now a.manifest.now b.result b.ensures (not-false _ e.if-not-is_signed_by.false-raw)

pub has_id_spec : {M : Type 1} → statement M
has_id_spec =
    tie.close (tie.spec (λ c κs. search rules) returns-then-not-is_signed_by (λ c. search rules) (λ c. search rules) (λ c. search rules)
    (λ c κs. search rules) returns)
