-- What reading a record at a position, and surveying a store, answer: positions in the store's bytes, and the image that stands there.
use Rattle.std.specs.Prelude.{ℕ, ◌+◌, ◌-◌, ◌≤◌, ◌<◌, ◌≡◌, List, [], ◌∷◌, map, length, take, drop, get_or, None, Some, Option}
use Rattle.reference_digests.specs.Algorithms.{digest_bytes}
use Rattle.reference.specs.References.{image_id}
use Rattle.reference_digests.specs.declared.algorithm.Algorithm.TheVariants.{Sha224}
use Rattle.store_record.specs.Image.{Image}
use Rattle.store_record.specs.Record.{read_body, read_record, image, no_image}
use Rattle.store_record.specs.Store.{most_images, read_records}
use Rattle.store_record.specs.declared.Record.{Record}
use Rattle.store_record.specs.declared.Survey.{Survey}

-- the bytes from position i up to position j
unfoldable pub between : List ℕ → ℕ → ℕ → List ℕ
between s i j = take (j - i) (drop i s)

-- the image whose record has those positions in s
unfoldable pub held_in : List ℕ → Record → Image
held_in s r = record {
  ids = image_id r.algorithm (between s r.signer r.manifest) (between s r.manifest r.text) ∷ [];
  text = between s r.text r.end;
}

-- the positions of a record follow each other, inside s: two digests of its algorithm, and then the manifest
pub record RecordIn (s : List ℕ) (r : Record) : Type 0 where
  pub signer : r.manifest ≡ r.signer + digest_bytes r.algorithm
  pub manifest : r.text ≡ r.manifest + digest_bytes r.algorithm
  pub text : r.text ≤ r.end
  pub within : r.end ≤ length s

-- a record stands at position i
pub record RecordAt (s : List ℕ) (i : ℕ) (r : Record) : Type 0 where
  pub reads : read_record (drop i s) ≡ image (held_in s r) (drop r.end s)
  pub is_in : RecordIn s r
  pub later : i < r.end

abbrev pub Reads : List ℕ → ℕ → Option Record → Type 0
Reads s i (Some r) = RecordAt s i r
Reads s i None = read_record (drop i s) ≡ no_image

-- what follows a record's length, from position i up to position j
pub record BodyAt (s : List ℕ) (i j : ℕ) (r : Record) : Type 0 where
  pub reads : read_body (between s i j) ≡ Some (held_in s r)
  pub is_in : RecordIn s r
  pub end : r.end ≡ j

abbrev pub ReadsBody : List ℕ → ℕ → ℕ → Option Record → Type 0
ReadsBody s i j (Some r) = BodyAt s i j r
ReadsBody s i j None = read_body (between s i j) ≡ None

-- a record that stands nowhere: what an array of records is filled with
abbrev pub no_record : Record
no_record = record { algorithm = Sha224; signer = 0; manifest = 0; text = 0; end = 0 }

-- the images at the first positions of a survey
unfoldable pub images_in : List ℕ → Survey → List Image
images_in s v = map (held_in s) (take v.count v.records)

-- at most 64 records fill the bytes s exactly, and these are their positions
pub record Fills (s : List ℕ) (v : Survey) : Type 0 where
  pub images : read_records most_images s ≡ Some (images_in s v)
  pub few : v.count ≤ most_images
  pub each : (k : ℕ) → k < v.count → RecordIn s (get_or v.records k no_record)

-- none where no such records fill them
abbrev pub Surveys : List ℕ → Option Survey → Type 0
Surveys s (Some v) = Fills s v
Surveys s None = read_records most_images s ≡ None
