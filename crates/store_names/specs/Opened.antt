-- A store whose manifests have been opened.
use Rattle.std.specs.Prelude.{ℕ, ◌<◌, ◌≡◌, List, length, get_or}
use Rattle.manifest.specs.Opened.{no_places, Opens}
use Rattle.manifest.specs.Opened.{Places}
use Rattle.store_record.specs.Reading.{between, no_record, Fills}
use Rattle.store_record.specs.Store.{most_images}
use Rattle.store_record.specs.declared.Survey.{Survey}

-- the records of v fill the bytes b, and `places` are what opening their manifests gives
pub record OpenedStore (b : List ℕ) (v : Survey) (places : List Places) : Type 0 where
  pub fills : Fills b v
  pub space : length places ≡ most_images
  pub opens :
      (k : ℕ) → k < v.count → Opens (between b (get_or v.records k no_record).text (get_or v.records k no_record).end) (get_or places k no_places)
