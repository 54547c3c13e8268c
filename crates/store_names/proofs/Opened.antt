-- The manifests of a store that have been opened, one by one.
use Prim.Native.Nat.{ℕ, ◌<◌}
use mathlib.Core.List.{List}
use native.Mathlib.Omega.{arith}
use lib.ListN.{get_or}
use Rattle.laws.proofs.Lists.{any_default}
use Rattle.manifest.specs.Opened.{no_places, Opens}
use Rattle.manifest.specs.Opened.{Places}
use Rattle.store_record.specs.Reading.{between, no_record}
use Rattle.store_record.specs.declared.Survey.{Survey}
use Rattle.store_names.specs.Opened.{OpenedStore}

-- The manifest of the record at an index is opened by the places there.
pub opened_at : (b : List ℕ) (v : Survey) (places : List Places) → OpenedStore b v places → (k : ℕ) → k < v.count → (d : Places)
    → Opens (between b (get_or v.records k no_record).text (get_or v.records k no_record).end) (get_or places k d)
opened_at b v places o k h d = rw (any_default places k d no_places (omega (arith, o.space, o.fills.few))) (o.opens k h)
