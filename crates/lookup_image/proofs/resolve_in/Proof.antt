-- `lookup_image::resolve_in` meets its contract: the references of the store and of the image are placed and linked, and the digests of the layers are written.
-- Assumes nothing.
use Prim.Native.Nat.{ℕ, ◌≤◌}
use mathlib.Core.Path.{◌≡◌, refl, sym, ap}
use mathlib.Core.List.{List, ◌++◌}
use native.Mathlib.Omega.{arith}
use borrow.Author.Rules.{rules}
use lib.ListN.{length, take, get_or}
use lib.Seq.{length-take-le}
use Rattle.text.specs.Question.{lowest}
use Rattle.reference.specs.References.{Layer}
use Rattle.manifest.specs.Manifest.{layers}
use Rattle.store_record.specs.Image.{Image}
use Rattle.store_record.specs.Reading.{held_in, images_in, no_record}
use Rattle.store_record.proofs.Walks.{records_size}
use Rattle.lookup_paths.specs.Follow.{objects_of}
use Rattle.lookup_outcome.specs.Outcome.{Outcome}
use Rattle.lookup_outcome.specs.Resolving.{Resolving}
use Rattle.lookup_answer.specs.Answers.{layer_questions}
use Rattle.lookup_answer.proofs.Answering.{resolves_as}
use Rattle.lookup_image.proofs.Layers.{image_layers}
use Rattle.lookup_image.proofs.Linked.{resolving, outcome_after}
use Rattle.lookup_image.proofs.resolve_in.Statement.{statement}
use Rattle.lookup_image.proofs.resolve_in.Tie as tie

-- the references are placed
module _ (p : tie.After-place_refs-n) where
  abbrev start : tie.Start
  start = p.before.before.before.before.before.before.before.before.before.before

  abbrev keys : List ℕ
  keys = p.place_refs-n.new.keys

  abbrev total : ℕ
  total = p.place_refs-n.result.total

  -- the layers of the image
  abbrev its_layers : List Layer
  its_layers = layers (held_in start.args.b.now (get_or start.args.v.records start.args.i.0 no_record)).text

  within : total ≤ length keys
  within = omega (arith, p.place_refs-n.auto.keys, p.place_refs-n.ensures.1)

  size : length (take total keys) ≡ total
  size = length-take-le total keys within

-- and linked
module _ (f : tie.After-link_refs) where
  abbrev placed : tie.After-place_refs-n
  placed = f.before.before.before.before.before.before.before.before.before.before

  abbrev room : List Image
  room = images_in (start placed).args.b.now (start placed).args.v

  abbrev refs : List Layer
  refs = objects_of room ++ its_layers placed

  linked :
      Resolving (start placed).args.b.now (take (total placed) (keys placed)) f.link_refs.new.next
      (start placed).args.present.now placed.place_refs-n.result.objects room refs (start placed).requires.list.layers
  linked =
      let e = placed.place_refs-n.ensures in
      let q = (start placed).requires in
      resolving _ _ _ q.opened _ q.within q.apart e.3 (f.link_refs.ensures (its_layers placed) e.3) e.0 q.list

place_refs-n-requires : tie.Need-place_refs-n-requires
place_refs-n-requires c κs = let q = c.requires in (q.opened, q.within, refl, refl)

slice_bounds-keys-end : tie.Need-slice_bounds-keys-end
slice_bounds-keys-end c = within c.before.before.before

slice_bounds-link_refs-end-2 : tie.Need-slice_bounds-link_refs-end-2
slice_bounds-link_refs-end-2 c = sym (size c.before.before.before.before)

link_refs-requires : tie.Need-link_refs-requires
link_refs-requires c κs =
    let p = c.before.before.before.before.before.before.before.before.before in
    let q = (start p).requires in
    let e = p.place_refs-n.ensures in
    let few : length (take (total p) (keys p)) ≤ 4160 = omega (arith, size p, e.1) in
    record {
      opened = q.opened;
      counted = e.2;
      layers = its_layers p;
      stand = e.3;
      few = few;
      at_space = omega (arith, q.at_space);
      order_space = omega (arith, q.order_space);
      next_space = few;
      names_space = q.names_space;
      owners_space = q.owners_space;
    }

-- the links from which the layers are followed
abbrev linked_at : tie.After-slice_known-9-1 → tie.After-link_refs
linked_at c = c.before.before.before.before.before.before.before.before.before

slice_bounds-keys-end-2 : tie.Need-slice_bounds-keys-end-2
slice_bounds-keys-end-2 c = within (placed (linked_at c))

slice_bounds-write_layers-end : tie.Need-slice_bounds-write_layers-end
slice_bounds-write_layers-end c = sym (size (placed (linked_at c.before)))

write_layers-requires : tie.Need-write_layers-requires
write_layers-requires c κs = let f = linked_at c.before.before.before in record { room = room f; refs = refs f; layers = _; is = linked f }

returns : tie.Need-returns
returns c =
    let f = linked_at c.before.before.before.before.before.before in
    let p = placed f in
    let a = start p in
    let q = a.requires in
    let v = a.args.v in
    let fits : v.count ≤ length v.records = omega (arith, records_size v a.well_formed.1.0, q.opened.fills.few) in
    let l = image_layers _ v fits _ q.within in
    let o = outcome_after (room f) (its_layers p) a.args.i.0 _ _ _ p.place_refs-n.ensures.0 l q.list.is in
    resolves_as (ap (λ (x : Outcome). lowest (layer_questions x (length a.args.out.now))) o) o
    (c.write_layers.ensures (room f) (refs f) _ (linked f))

pub resolve_in_spec : {M : Type 1} → statement M
resolve_in_spec =
    tie.close (tie.spec (λ c. refl) (λ c. refl) place_refs-n-requires (λ c. search rules) slice_bounds-keys-end slice_bounds-link_refs-end-2
    (λ c. refl) link_refs-requires slice_bounds-keys-end-2 slice_bounds-write_layers-end (λ c. search rules) write_layers-requires (λ c. search rules)
    (λ c. search rules) (λ c. search rules) (λ c. search rules) (λ c. search rules) returns)
