-- The bits of a table's words are its guards and its marks.
use Rattle.std.proofs.Common.{◌≡◌, sym, ap, ◌∙◌, arith, not}
use Rattle.policy_pairs.proofs.Reported.{no_guard, with_itself, with_other}
use Rattle.policy_pairs.proofs.is_reported.Goals as goal

pub returns-then-not-has : goal.returns-then-not-has
returns-then-not-has c =
    let a = c.args in
    λ n fits h k. sym (no_guard n a.g a.guards a.rows.now h a.o (sym c.has.ensures ∙ c.if-not-has.true))

pub returns-then-g-o : goal.returns-then-g-o
returns-then-g-o c =
    let a = c.args in
    λ n fits h k. sym (with_itself n a.g a.guards a.rows.now h a.o c.if-g-o.true)

pub returns : goal.returns
returns c =
    let a = c.args in
    let apart : a.g ≡ a.o → ⊥ = omega arith in
    λ n fits h k.
    ap not c.has-2.ensures
    ∙ sym (with_other n a.g a.guards a.rows.now h a.o (sym c.has.ensures ∙ c.if-not-has.false) apart k fits)
