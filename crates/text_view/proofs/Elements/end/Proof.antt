-- `text_view::Elements::end` meets its contract. Assumes nothing.
use mathlib.Core.Bool.{false}
use Rattle.text_view.proofs.Cursors.{no_elements}
use Rattle.text_view.proofs.Elements.end.Statement.{statement}
use Rattle.text_view.proofs.Elements.end.Tie as tie

list_end-requires : tie.Need-list_end-requires
list_end-requires c κs = let l = c.requires in record { depth = c.args.self.depth; object = false; rest = l.rest; here = no_elements _ _ l }

returns : tie.Need-returns
returns c = let l = c.requires in c.list_end.ensures _ false l.rest (no_elements _ _ l)

pub end_spec : {M : Type 1} → statement M
end_spec =
    tie.close (tie.spec list_end-requires returns)
