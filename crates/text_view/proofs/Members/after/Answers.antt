use mathlib.Core.Bool.{true}
use Rattle.text_view.proofs.Cursors.{gives_member}
use Rattle.text_view.proofs.Members.after.Goals as goal

pub after_value-requires : goal.after_value-requires
after_value-requires c =
    let o = c.requires in
    let l = o.left in
    record {
      at = _;
      depth = _;
      object = true;
      list = record { trees = l.trees; rest = l.rest; here = l.derives };
      first = o.key;
      value = o.value;
      place = o.first.place;
      ends = o.ends;
    }

pub returns : goal.returns
returns c = λ fs p q l first ends. gives_member _ _ fs l p q _ (λ ts r h. c.after_value.ensures _ _ true ts r p q h first.place ends)
