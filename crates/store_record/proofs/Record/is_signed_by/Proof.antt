-- `store_record::Record::is_signed_by` meets its contract.
use borrow.Author.Rules.{rules}
use mathlib.Core.Path.{sym, ap, ◌∙◌}
use mathlib.Core.Bool.{Bool, ◌&&◌}
use borrow.Author.Tests.{eq-eqb, ne_eqb}
use Rattle.laws.specs.Order.{same}
use Rattle.reference_digests.specs.Algorithms.{byte_of}
use Rattle.store_record.specs.Reading.{between}
use Rattle.store_record.proofs.Record.is_signed_by.Statement.{statement}
use Rattle.store_record.proofs.Record.is_signed_by.Tie as tie

returns-then-byte : tie.Need-returns-then-byte
returns-then-byte c =
    let b = c.before in
    let a = b.args in
    sym (ap (λ (t : Bool). t && same a.signer.now (between a.s.now a.self.signer a.self.manifest))
    (ne_eqb (byte_of a.a) (byte_of a.self.algorithm) (λ e. c.if-byte.true (b.byte.ensures ∙ e ∙ sym b.byte-2.ensures))))

returns : tie.Need-returns
unfolding between
returns c =
    let b = c.before.before.before in
    let a = b.args in
    c.equal.ensures
    ∙ sym (ap (λ (t : Bool). t && same a.signer.now (between a.s.now a.self.signer a.self.manifest))
    (eq-eqb (byte_of a.a) (byte_of a.self.algorithm) (sym b.byte.ensures ∙ c.if-byte.false ∙ b.byte-2.ensures)))

pub is_signed_by_spec : {M : Type 1} → statement M
is_signed_by_spec =
    tie.close (tie.spec (λ c κs. search rules) (λ c κs. search rules) returns-then-byte (λ c. search rules) (λ c. search rules) (λ c. search rules)
    (λ c κs. search rules) returns)
