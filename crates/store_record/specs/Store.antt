-- A store is a run of records, at most 64, with no header (document 01, "The room").
use Rattle.std.specs.Prelude.{ℕ, zero, suc, List, [], ◌∷◌, ◌++◌, Option, None, Some}
use Rattle.store_record.specs.Image.{Image}
use Rattle.store_record.specs.Record.{record_of, Shaped, Begins, image, no_image, read_record}

-- the most images that a store holds
abbrev pub most_images : ℕ
most_images = 64

unfoldable pub store_of : List Image → List ℕ
store_of [] = []
store_of (x ∷ xs) = record_of x ++ store_of xs

-- all images are as a record holds them
pub data AllShaped : List Image → Type 0 where
  none_shaped : AllShaped []
  shaped : {x : Image} {xs : List Image} → Shaped x → AllShaped xs → AllShaped (x ∷ xs)

unfoldable pub and_then : Image → Option (List Image) → Option (List Image)
and_then x None = None
and_then x (Some xs) = Some (x ∷ xs)

-- the first record's image, and then those of the rest
unfoldable pub continued : (List ℕ → Option (List Image)) → Begins → Option (List Image)
continued rest no_image = None
continued rest (image x r) = and_then x (rest r)

-- the images of at most so many records that fill the bytes exactly; none where they do not
unfoldable pub read_records : ℕ → List ℕ → Option (List Image)
read_records zero [] = Some []
read_records zero (b ∷ s) = None
read_records (suc k) [] = Some []
read_records (suc k) (b ∷ s) = continued (λ r. read_records k r) (read_record (b ∷ s))
