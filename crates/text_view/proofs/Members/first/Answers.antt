use Rattle.text_view.proofs.Cursors.{gives_head, gives_no_head}
use Rattle.text_view.proofs.Members.first.Goals as goal

pub returns-in_err-first : goal.returns-in_err-first
returns-in_err-first c = rw c.from_residual.ensures (λ x l. gives_no_head _ _ x l (c.in_err-first.ensures l.trees l.rest l.derives))

pub returns : goal.returns
returns c = λ x l. gives_head _ _ x l _ _ (c.in_ok-first.ensures l.trees l.rest l.derives)
