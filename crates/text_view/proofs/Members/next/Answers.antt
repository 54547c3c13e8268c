use Rattle.text_view.proofs.Cursors.{gives_member, gives_no_member}
use Rattle.text_view.proofs.Members.next.Goals as goal

pub returns-in-At : goal.returns-in-At
returns-in-At c = λ x l. gives_member _ _ x l _ _ _ c.in-At.ensures

pub returns-in-End : goal.returns-in-End
returns-in-End c = λ x l. gives_no_member _ _ x l _ (c.in-End.ensures l.trees l.rest l.derives)
