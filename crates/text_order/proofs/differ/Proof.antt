-- `text_order::differ` meets its contract: the tests that were made say which case of the definition holds. Assumes nothing.
use borrow.Author.Tests.{eq-eqb, ne_eqb, lt-ltb, le-ltb}
use Rattle.text_order.specs.Compare.{differs}
use Rattle.text_order.proofs.differ.Statement.{statement}
use Rattle.text_order.proofs.differ.Tie as tie

pub differ_spec : {M : Type 1} → statement M
unfolding differs
differ_spec =
    tie.close (tie.spec (λ c. rw (differs, eq-eqb _ _ c.if-x-eq34.true)) (λ c. rw (differs, ne_eqb _ _ c.if-x-eq34.false, eq-eqb _ _ c.if-y-eq34.true))
    (λ c. rw (differs, ne_eqb _ _ c.if-x-eq34.false, ne_eqb _ _ c.if-y-eq34.false, lt-ltb _ _ c.if-x-y.true))
    (λ c. rw (differs, ne_eqb _ _ c.if-x-eq34.false, ne_eqb _ _ c.if-y-eq34.false, le-ltb _ _ c.if-x-y.false)))
