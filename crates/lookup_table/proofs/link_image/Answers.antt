use Prim.Native.Nat.{◌≤◌}
use mathlib.Core.Path.{subst}
use mathlib.Core.List.{List, ◌++◌}
use native.Mathlib.Omega.{arith}
use lib.ListN.{length}
use Rattle.manifest_objects.proofs.Naming.{name_stands}
use Rattle.store_record.specs.Reading.{between}
use Rattle.store_keys.specs.Keys.{LayerKey}
use Rattle.lookup_links.specs.Links.{Links}
use Rattle.lookup_table.proofs.Images.{keys_held, alias_here, keys_none, keys_next, keys_all}
use Rattle.lookup_table.proofs.link_image.Goals as goal

pub list_aliases-n-requires : goal.list_aliases-n-requires
unfolding between
list_aliases-n-requires c = (c.requires.opens, c.requires.names_space, c.requires.owners_space)

pub loop-k-init : goal.loop-k-init
unfolding between
loop-k-init c = λ refs ks t o p.
    let e = c.list_aliases-n.ensures in
    keys_none _ _ _ _ (omega (arith, e.0, e.1, c.requires.names_space)) e.3 c.args.r.algorithm (between c.args.b.now c.args.r.signer c.args.r.manifest) refs _ o ks _ p

pub overflow_cast-number-in-loop-k : goal.overflow_cast-number-in-loop-k
unfolding between
overflow_cast-number-in-loop-k c =
    let e = c.list_aliases-n.ensures in
    let x = alias_here _ _ _ _ (omega (arith, e.0, e.1, c.requires.names_space)) e.3 c.loop-k.k c.loop-k-test.true in
    omega (arith, x.within, c.requires.within, c.requires.table.table.few)

pub link_name-requires : goal.link_name-requires
link_name-requires c =
    let e = c.list_aliases-n.ensures in
    let x = alias_here _ _ _ _ (omega (arith, e.0, e.1, c.requires.names_space)) e.3 c.loop-k.k c.loop-k-test.true in
    (c.requires.table, record { name = _; stands = name_stands c.args.b.now _ _ _ _ _ x }, omega (arith, c.requires.space, c.loop-k.auto.next))

pub loop-k-preserved : goal.loop-k-preserved
unfolding between
loop-k-preserved c = λ refs ks t o p.
    let l = c.loop-k in
    let e = c.list_aliases-n.ensures in
    let fits : c.list_aliases-n.result ≤ length c.list_aliases-n.new.names = omega (arith, e.0, e.1, c.requires.names_space) in
    let x = alias_here _ _ _ _ fits e.3 l.k c.loop-k-test.true in
    keys_next _ _ _ _ fits e.3 _ _ refs _ o ks l.k c.loop-k-test.true l.next _ (l.invariant refs ks t o p)
    (λ m q. c.link_name.ensures refs m _ t (name_stands c.args.b.now _ _ _ _ _ x) (omega (arith, o.within, x.within)) q)

pub returns : goal.returns
unfolding between
returns c = λ refs ks x o p.
    let l = c.loop-k in
    let e = c.list_aliases-n.ensures in
    subst (λ (k : List LayerKey). Links (ks ++ k) refs l.next) (keys_held _ c.args.r)
    (keys_all _ _ _ _ (omega (arith, e.0, e.1, c.requires.names_space)) e.3 _ _ refs _ o ks l.k (omega arith) l.next (l.invariant refs ks x o p))
