-- How many objects each image of a store has.
use Rattle.std.specs.Prelude.{ℕ, ◌<◌, ◌≡◌, List, length, get_or}
use Rattle.manifest.specs.Names.{objects}
use Rattle.store_record.specs.Reading.{between, no_record}
use Rattle.store_record.specs.Store.{most_images}
use Rattle.store_record.specs.declared.Survey.{Survey}

-- so far as image n, `counts` says how many objects an image has
pub record CountedTo (n : ℕ) (b : List ℕ) (v : Survey) (counts : List ℕ) : Type 0 where
  pub space : length counts ≡ most_images
  pub each : (k : ℕ) → k < n → get_or counts k 0 ≡ length (objects (between b (get_or v.records k no_record).text (get_or v.records k no_record).end))
