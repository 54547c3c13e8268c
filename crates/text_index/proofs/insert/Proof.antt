-- `text_index::insert` meets its contract. Assumes nothing.
use borrow.Author.Rules.{rules}
use Prim.Native.Nat.{◌≤◌, ◌<◌}
use mathlib.Core.Path.{◌≡◌, sym}
use native.Mathlib.Omega.{arith}
use lib.ListN.{length, take}
use lib.Seq.{length-take-le}
use Rattle.text_index.specs.Index.{entry_text}
use Rattle.text_index.proofs.Inserting.{index_more}
use Rattle.text_index.proofs.insert.Statement.{statement}
use Rattle.text_index.proofs.insert.Tie as tie

-- the index has n strings
size : (c : tie.Start) → length (take c.args.n c.args.order.now) ≡ c.args.n
size c = length-take-le c.args.n c.args.order.now (omega (arith, c.requires.1))

slice_bounds-count_before-end-2 : tie.Need-slice_bounds-count_before-end-2
slice_bounds-count_before-end-2 c = sym (size c.before.before.before.before)

count_before-k-requires : tie.Need-count_before-k-requires
count_before-k-requires c κs = (c.requires.0, c.requires.2.inside)

-- the place that was found is one of the first n, or the one behind them
place : (c : tie.After-count_before-k) → c.count_before-k.result ≤ c.args.n
place c = omega (arith, c.count_before-k.ensures.within, size c.before.before.before.before.before)

move_up-requires : tie.Need-move_up-requires
move_up-requires c κs = (place c.before, c.requires.1)

-- place n is one of the slice
short : (c : tie.After-move_up) → c.args.n < length c.move_up.new.order
short c = omega (arith, c.requires.1, c.move_up.ensures.length_kept)

offset_bounds-order-k : tie.Need-offset_bounds-order-k
offset_bounds-order-k c = omega (arith, place c.before.before.before.before)

bounds-order-k : tie.Need-bounds-order-k
bounds-order-k c = omega (arith, place c.before.before.before.before, short c.before.before)

shape_of-order : tie.Need-shape_of-order
shape_of-order c = search rules

returns : tie.Need-returns
unfolding entry_text
returns c =
    let d = c.before.before in
    let s = d.before.before.before.before.before.before.before in
    (shape_of-order c, index_more _ _ _ _ _ _ _ s.requires.1 s.requires.2 d.count_before-k.ensures d.move_up.ensures)

pub insert_spec : {M : Type 1} → statement M
insert_spec =
    tie.close (tie.spec (λ c. search rules) (λ c. search rules) (λ c. search rules) slice_bounds-count_before-end-2 count_before-k-requires
    move_up-requires offset_bounds-order-k bounds-order-k shape_of-order returns)
