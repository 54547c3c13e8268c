-- The aliases of the image before this one are linked.
use mathlib.Core.List.{List, ◌++◌}
use lib.ListN.{take}
use Rattle.reference.specs.References.{Layer}
use Rattle.manifest.specs.Names.{objects}
use Rattle.store_record.specs.Reading.{between}
use Rattle.store_keys.specs.Keys.{LayerKey}
use Rattle.lookup_links.specs.Links.{Links}
use Rattle.lookup_index.specs.Table.{Table}
use Rattle.lookup_table.specs.Linking.{ObjectsFrom}
use Rattle.lookup_table.proofs.Images.{keys_under}
use Rattle.lookup_table.proofs.link_image.Given as goal

abbrev pub invariant-loop-k : goal.invariant-loop-k
invariant-loop-k l =
    let r = l.fn.r in
    (refs : List Layer) (ks : List LayerKey) → Table l.b l.keys l.at l.order refs → ObjectsFrom refs l.first (objects (between l.b r.text r.end))
    → Links ks refs l.initial.next
    → Links (ks ++ take l.k (keys_under l.a (between l.b r.signer r.manifest) (between l.b r.text r.end))) refs l.next
