-- `lookup_table::place_refs` meets its contract: the layers of the image stand after the objects of all images. Assumes nothing.
use Prim.Native.Nat.{ℕ, ◌+◌, ◌-◌, ◌≤◌, ◌<◌}
use mathlib.Core.Path.{◌≡◌, sym, ◌∙◌}
use mathlib.Core.List.{List}
use native.Mathlib.Omega.{arith}
use borrow.Author.Rules.{rules}
use borrow.Rule.Slice.PartMut.{mid_of, mid_len}
use lib.ListN.{length, get_or}
use lib.Seq.{length-take-le}
use Rattle.manifest.specs.Opened.{Opens}
use Rattle.manifest.specs.Opened.{Places}
use Rattle.store_record.specs.Reading.{between, held_in, no_record, RecordIn}
use Rattle.store_record.specs.declared.Record.{Record}
use Rattle.store_names.proofs.Opened.{opened_at}
use Rattle.lookup_paths.proofs.Objects.{objects_counted}
use Rattle.manifest_objects.proofs.Standing.{stand_length}
use Rattle.laws.proofs.Writing.{back_size}
use Rattle.lookup_table.proofs.Placing.{stand_behind}
use Rattle.lookup_table.proofs.place_refs.Statement.{statement}
use Rattle.lookup_table.proofs.place_refs.Tie as tie

place_all-objects-requires : tie.Need-place_all-objects-requires
place_all-objects-requires c κs = let p = c.requires in (p.0, omega (arith, p.2), p.3)

-- the objects were placed
module _ (p : tie.After-place_all-objects) where
  abbrev start : tie.Start
  start = p.before.before.before.before.before.before

  abbrev keys : List ℕ
  keys = p.place_all-objects.new.keys

  abbrev placed : ℕ
  placed = p.place_all-objects.result

  few : start.args.i.0 < 64
  few = omega (arith, start.requires.1, start.requires.0.fills.few)

  abbrev reached : Record
  reached = get_or start.args.v.records start.args.i.0 no_record

  inside : RecordIn start.args.b.now reached
  inside = start.requires.0.fills.each _ start.requires.1

  opened : (d : Places) → Opens (between start.args.b.now reached.text reached.end) (get_or start.args.places start.args.i.0 d)
  opened = opened_at _ _ _ start.requires.0 _ start.requires.1

  size : length keys ≡ 4160
  size = p.place_all-objects.auto.keys ∙ start.requires.2

  fits : placed + 64 ≤ length keys
  fits = omega (arith, size, p.place_all-objects.ensures.0)

  lent : length (mid_of placed (length keys - placed) keys) ≡ length keys - placed
  lent = mid_len placed (length keys) keys (omega arith)

offset_bounds-v-k : tie.Need-offset_bounds-v-k
offset_bounds-v-k c = omega (arith, few c.before.before.before.before)

bounds-v-k : tie.Need-bounds-v-k
bounds-v-k c = few c.before.before.before.before

offset_bounds-places-k : tie.Need-offset_bounds-places-k
offset_bounds-places-k c = omega (arith, few c.before.before.before.before.before)

bounds-places-k : tie.Need-bounds-places-k
bounds-places-k c = few c.before.before.before.before.before

-- the objects that were placed before the image's fields were read
abbrev objects_of : tie.After-q-1 → tie.After-place_all-objects
objects_of c = c.before.before.before.before.before.before

offset_bounds-keys-objects : tie.Need-offset_bounds-keys-objects
offset_bounds-keys-objects c = omega (arith, (objects_of c).place_all-objects.ensures.0)

slice_bounds-place_layers-count : tie.Need-slice_bounds-place_layers-count
slice_bounds-place_layers-count c = omega (arith, fits (objects_of c))

slice_bounds-place_layers-start : tie.Need-slice_bounds-place_layers-start
slice_bounds-place_layers-start c = omega (arith, fits (objects_of c))

place_layers-m-requires : tie.Need-place_layers-m-requires
unfolding between
place_layers-m-requires c κs =
    let p = objects_of c.before in
    ((inside p).text, (inside p).within, opened p _, omega (arith, lent p, fits p))

overflow_add-result : tie.Need-overflow_add-result
overflow_add-result c = let f = c.before.before in omega (arith, (objects_of f.before.before).place_all-objects.ensures.0, f.place_layers-m.ensures.0)

shape_of-keys : tie.Need-shape_of-keys
shape_of-keys c =
    let f = c.before.before in
    let p = objects_of f.before.before in
    back_size (placed p) (keys p) f.place_layers-m.new.keys (omega (arith, fits p)) (f.place_layers-m.ensures.1 ∙ lent p)
    ∙ p.place_all-objects.auto.keys

shape_of-counts : tie.Need-shape_of-counts
shape_of-counts c = (objects_of c.before.before.before.before).place_all-objects.auto.counts

returns : tie.Need-returns
unfolding between held_in
returns c =
    let f = c.before.before in
    let p = objects_of f.before.before in
    let e = p.place_all-objects.ensures in
    let g = f.place_layers-m.ensures in (
      sym (length-take-le (placed p) (keys p) (omega (arith, fits p))) ∙ stand_length e.2 ∙ objects_counted _,
      omega (arith, e.0, g.0),
      e.1,
      stand_behind (placed p) (keys p) _ (omega (arith, fits p)) f.place_layers-m.result e.2 g.3,
    )

pub place_refs_spec : {M : Type 1} → statement M
place_refs_spec =
    tie.close (tie.spec place_all-objects-requires offset_bounds-v-k bounds-v-k offset_bounds-places-k bounds-places-k offset_bounds-keys-objects
    slice_bounds-place_layers-count slice_bounds-place_layers-start (λ c. search rules) place_layers-m-requires overflow_add-result shape_of-keys
    shape_of-counts returns)
