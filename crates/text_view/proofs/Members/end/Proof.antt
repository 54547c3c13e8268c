-- `text_view::Members::end` meets its contract. Assumes nothing.
use mathlib.Core.Bool.{true}
use Rattle.text_view.proofs.Cursors.{no_members}
use Rattle.text_view.proofs.Members.end.Statement.{statement}
use Rattle.text_view.proofs.Members.end.Tie as tie

list_end-requires : tie.Need-list_end-requires
list_end-requires c κs = let l = c.requires in record { depth = c.args.self.depth; object = true; rest = l.rest; here = no_members _ _ l }

returns : tie.Need-returns
returns c = let l = c.requires in c.list_end.ensures _ true l.rest (no_members _ _ l)

pub end_spec : {M : Type 1} → statement M
end_spec =
    tie.close (tie.spec list_end-requires returns)
