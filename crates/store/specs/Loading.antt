-- What the steps of a load are given, and what they answer.
use Rattle.std.specs.Prelude.{ℕ, ◌≤◌, ◌≡◌, List, ◌⊎◌, length}
use Rattle.answer.specs.declared.Answer.{Answer}
use Rattle.answer.specs.declared.TextAnswer.{TextAnswer}
use Rattle.text.specs.Answer.{form, text_place}
use Rattle.manifest.specs.Opened.{Opens}
use Rattle.manifest.specs.Opened.{Places}
use Rattle.store_record.specs.Image.{Image}
use Rattle.store.specs.Load.{used_after, bytes_after, load_number, load_used, load_bytes}

-- space for the canonical form of a manifest, unless that is too long for any
pub record FormSpace (manifest form : List ℕ) : Type 0 where
  pub fits : (length manifest ≤ length form) ⊎ (16384 ≤ length form)

-- a good manifest that is its own canonical form, opened
pub record Readied (text : List ℕ) (p : Places) : Type 0 where
  pub opens : Opens text p
  pub own : form text ≡ text

-- the arrays that a load makes once, and lends to its steps
pub record NameArrays (names spare : List ℕ) : Type 0 where
  pub names_size : length names ≡ 4096
  pub spare_size : length spare ≡ 4096

-- the answer r of number n for the image x: the used count, and the buffer from `before` to `after`
pub record Loads (n : ℕ) (x : Image) (before : List ℕ) (used : ℕ) (r : Answer) (after : List ℕ) : Type 0 where
  pub number : r.number ≡ n
  pub new_used : r.value ≡ used_after n x used
  pub bytes : after ≡ bytes_after n x before used

-- the same of a load of this manifest, with the offset of the fault of its text
pub record LoadsText (id manifest before : List ℕ) (used : ℕ) (r : TextAnswer) (after : List ℕ) : Type 0 where
  pub number : r.number ≡ load_number id manifest before used
  pub new_used : r.value ≡ load_used id manifest before used
  pub bytes : after ≡ load_bytes id manifest before used
  pub place : r.place ≡ text_place manifest
