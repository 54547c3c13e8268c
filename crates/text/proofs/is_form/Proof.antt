-- `text::is_form` meets its contract. Assumes nothing.
use Rattle.text.proofs.Checks.{other_size, same_size}
use Rattle.text.proofs.is_form.Statement.{statement}
use Rattle.text.proofs.is_form.Tie as tie

returns-then-sum-len : tie.Need-returns-then-sum-len
returns-then-sum-len c = λ t e. other_size _ t e _ c.if-sum-len.true

returns : tie.Need-returns
returns c = λ t e. same_size _ t e _ c.if-sum-len.false

pub is_form_spec : {M : Type 1} → statement M
is_form_spec =
    tie.close (tie.spec returns-then-sum-len returns)
