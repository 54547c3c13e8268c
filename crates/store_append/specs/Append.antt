-- Appending a record to a store (document 01, "The room"), and what has to hold before it.
use Rattle.std.specs.Prelude.{ℕ, ◌+◌, ◌-◌, ◌≤◌, ◌<◌, Bool, true, false, List, [], ◌∷◌, ◌++◌, length, take, drop, ◌≡◌}
use Rattle.reference.specs.References.{image_id}
use Rattle.store_record.specs.Image.{Image}
use Rattle.store_record.specs.Record.{record_of}
use Rattle.store_record.specs.Store.{most_images}
use Rattle.reference_digests.specs.Algorithms.{digest_bytes}
use Rattle.reference_digests.specs.declared.algorithm.Algorithm.{Algorithm}

-- the buffer with some bytes put after its first `used` bytes; those after them stay
unfoldable pub appended : List ℕ → ℕ → List ℕ → List ℕ
appended buffer used bytes = take used buffer ++ (bytes ++ drop (used + length bytes) buffer)

-- the image with that algorithm, those digests and that text
abbrev pub image_with : Algorithm → List ℕ → List ℕ → List ℕ → Image
image_with a signer digest text = record { ids = image_id a signer digest ∷ []; text = text }

-- digests of that algorithm
pub record Digests (a : Algorithm) (signer digest : List ℕ) : Type 0 where
  pub signer_size : length signer ≡ digest_bytes a
  pub digest_size : length digest ≡ digest_bytes a

-- the number of the questions 13 and 14, for a record of that length: whether the image clashes, how many images there are, and how many bytes are left
pub record NumberLeft (long count left : ℕ) (clashing : Bool) (n : ℕ) : Type 0 where
  pub clashes : clashing ≡ true → n ≡ 13
  pub too_many : clashing ≡ false → count ≡ most_images → n ≡ 14
  pub too_long : clashing ≡ false → left < long → n ≡ 14
  pub none : clashing ≡ false → (count ≡ most_images → ⊥) → long ≤ left → n ≡ 0

-- there is space for the record of x after the first `used` bytes
pub record Fits (x : Image) (buffer : List ℕ) (used : ℕ) : Type 0 where
  pub within : used ≤ length buffer
  pub space : length (record_of x) ≤ length buffer - used

-- an image that no question refuses: its text is short, and there is space for its record
pub record Storable (a : Algorithm) (signer digest text buffer : List ℕ) (used : ℕ) : Type 0 where
  pub short : length text ≤ 16384
  pub digests : Digests a signer digest
  pub fits : Fits (image_with a signer digest text) buffer used

-- the record of the image with that algorithm, those digests and that text is put after the first `used` bytes
abbrev pub PutsRecord : Algorithm → List ℕ → List ℕ → List ℕ → ℕ → List ℕ → List ℕ → Type 0
PutsRecord a signer digest text used before after = after ≡ appended before used (record_of (image_with a signer digest text))
