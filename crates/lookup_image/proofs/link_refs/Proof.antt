-- `lookup_image::link_refs` meets its contract: the references are marked and indexed, and then linked. Assumes nothing.
use Prim.Native.Nat.{ℕ, ◌≤◌}
use mathlib.Core.Path.{◌≡◌, sym, ◌∙◌}
use mathlib.Core.List.{List}
use native.Mathlib.Omega.{arith}
use borrow.Author.Rules.{rules}
use lib.ListN.{length}
use lib.Seq.{length-take-le}
use Rattle.manifest_objects.proofs.Standing.{stand_length}
use Rattle.lookup_image.proofs.Linked.{lent_space, links_lent}
use Rattle.lookup_image.proofs.link_refs.Statement.{statement}
use Rattle.lookup_image.proofs.link_refs.Tie as tie

slice_bounds-tabulate-end : tie.Need-slice_bounds-tabulate-end
slice_bounds-tabulate-end c = c.requires.next_space

slice_bounds-tabulate-end-2 : tie.Need-slice_bounds-tabulate-end-2
slice_bounds-tabulate-end-2 c = sym (length-take-le _ _ c.requires.next_space)

tabulate-aliases-requires : tie.Need-tabulate-aliases-requires
tabulate-aliases-requires c κs =
    let p = c.requires in
    (record { refs = _; stand = p.stand; few = p.few }, p.at_space, length-take-le _ _ p.next_space, p.order_space)

-- the references are marked and indexed
module _ (k : tie.After-tabulate-aliases) where
  abbrev start : tie.Start
  start = k.before.before.before.before.before.before.before.before.before.before.before.before

  abbrev marked : List ℕ
  marked = k.tabulate-aliases.new.next

  marked_size : length marked ≡ length start.args.keys.now
  marked_size = k.tabulate-aliases.auto.next ∙ length-take-le _ _ start.requires.next_space

  indexed_space : k.tabulate-aliases.result ≤ length k.tabulate-aliases.new.order
  indexed_space = omega (arith, k.tabulate-aliases.ensures.0, k.tabulate-aliases.auto.order, start.requires.order_space)

slice_bounds-link_all-end : tie.Need-slice_bounds-link_all-end
slice_bounds-link_all-end c = indexed_space c.before.before.before.before.before.before

slice_bounds-link_all-end-2 : tie.Need-slice_bounds-link_all-end-2
slice_bounds-link_all-end-2 c = sym (length-take-le _ _ (indexed_space c.before.before.before.before.before.before))

link_all-requires : tie.Need-link_all-requires
link_all-requires c κs =
    let k = c.before.before.before.before.before.before.before.before.before in
    let p = (start k).requires in
    let t = k.tabulate-aliases.ensures.1 _ p.stand in
    record {
      opened = p.opened;
      counted = p.counted;
      layers = p.layers;
      table = t.1;
      space = lent_space _ (marked k) _ (marked_size k);
      names_space = p.names_space;
      owners_space = p.owners_space;
    }

returns : tie.Need-returns
returns c = λ ls s.
    let k = c.before.before.before.before.before.before.before.before.before.before.before.before.before.before.before.before in
    let t = k.tabulate-aliases.ensures.1 _ s in
    c.link_all.ensures ls t.1
    (links_lent _ (marked k) _ (marked_size k) (sym (stand_length s)) t.0)

pub link_refs_spec : {M : Type 1} → statement M
link_refs_spec =
    tie.close (tie.spec slice_bounds-tabulate-end slice_bounds-tabulate-end-2 tabulate-aliases-requires slice_bounds-link_all-end
    slice_bounds-link_all-end-2 link_all-requires (λ c. search rules) (λ c. search rules) (λ c. search rules) (λ c. search rules) (λ c. search rules)
    returns)
