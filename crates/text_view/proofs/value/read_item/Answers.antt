use Rattle.text_view.proofs.Steps.{seen_place, seen_readable, seen_none, gives_end}
use Rattle.text_view.proofs.value.read_item.Goals as goal

pub skip-requires : goal.skip-requires
skip-requires c =
    let a = c.args in
    let p = c.requires in
    seen_readable a.s.now a.at a.depth a.object _ _ p.trees (c.in-Some.ensures p.trees p.rest p.here)

pub after_value-next-requires : goal.after_value-next-requires
after_value-next-requires c =
    let a = c.args in
    let p = c.requires in
    record {
      at = _;
      depth = _;
      object = _;
      list = p;
      first = _;
      value = _;
      place = seen_place a.s.now a.at a.depth a.object _ _ p.trees (c.in-Some.ensures p.trees p.rest p.here);
      ends = c.skip.ensures;
    }

pub list_end-requires : goal.list_end-requires
list_end-requires c =
    let a = c.args in
    let p = c.requires in
    seen_none a.s.now a.at a.depth a.object p.trees p.rest p.here (c.in_default.ensures p.trees p.rest p.here)

pub returns-in_default : goal.returns-in_default
returns-in_default c =
    let a = c.args in
    λ ts r h. gives_end a.s.now a.at a.depth a.object _ ts r h (c.in_default.ensures ts r h) (c.list_end.ensures _ _ r)

pub returns : goal.returns
returns c =
    let a = c.args in
    let p = c.requires in
    let place = seen_place a.s.now a.at a.depth a.object _ _ p.trees (c.in-Some.ensures p.trees p.rest p.here) in
    λ ts r h. c.after_value-next.ensures _ _ _ ts r _ _ h place c.skip.ensures
