use Rattle.text_tokens.proofs.Follow.{nothing_follows, end_follows, more_follows, misfit_follows}
use Rattle.text_tokens.proofs.after_item.Goals as goal

pub returns-then-s-i : goal.returns-then-s-i
returns-then-s-i c = nothing_follows _ _ _ _ c.skip_spaces-i.ensures.0 c.skip_spaces-i.ensures.1 c.if-s-i.true

pub returns-then-b-end_mark : goal.returns-then-b-end_mark
returns-then-b-end_mark c = end_follows _ _ _ _ c.skip_spaces-i.ensures.0 c.skip_spaces-i.ensures.1 c.if-s-i.false c.if-b-end_mark.true

pub returns-then-b-eq44 : goal.returns-then-b-eq44
returns-then-b-eq44 c =
    more_follows _ _ _ _ c.skip_spaces-i.ensures.0 c.skip_spaces-i.ensures.1 c.if-s-i.false _ c.if-b-end_mark.false c.if-b-eq44.true
    c.skip_spaces-next.ensures

pub returns : goal.returns
returns c = misfit_follows _ _ _ _ c.skip_spaces-i.ensures.0 c.skip_spaces-i.ensures.1 c.if-s-i.false c.if-b-end_mark.false c.if-b-eq44.false
