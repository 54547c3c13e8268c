-- What load answers and writes (document 01, "The room" and "What comes back"): questions 1 to 14, and the lowest that applies. One list of
-- questions serves a store in a buffer and a plain list of images.
use Rattle.std.specs.Prelude.{ℕ, ◌+◌, ◌-◌, Bool, true, false, ◌||◌, List, [], ◌∷◌, ◌++◌, leb, ltb, eqb, length, Option}
use Rattle.laws.specs.Any.{any_of}
use Rattle.text.specs.Answer.{form}
use Rattle.text.specs.Question.{Question, lowest}
use Rattle.reference.specs.References.{Id, image_id, no_id, image_id_of}
use Rattle.manifest.specs.Number.{questions}
use Rattle.store_record.specs.Image.{Image}
use Rattle.store_record.specs.Ids.{share_id}
use Rattle.store_record.specs.Record.{record_of}
use Rattle.store_record.specs.Store.{most_images, store_of}
use Rattle.store_keys.specs.Clash.{clash}
use Rattle.store_open.specs.Held.{held, is_broken, among}
use Rattle.store_append.specs.Append.{appended}

-- the image that load is given: the one ID, and the canonical form of the manifest
unfoldable pub image_of : List ℕ → List ℕ → Image
image_of id manifest = record { ids = image_id_of id ∷ []; text = form manifest }

-- 10: Image ID of bad form
unfoldable pub is_no_id : Id → Bool
is_no_id (image_id a s m) = false
is_no_id no_id = true

-- 14: 64 images already, or the record is longer than buffer length less used
unfoldable pub no_space : ℕ → List Image → Image → Bool
no_space size xs x = leb most_images (length xs) || ltb (size - length (store_of xs)) (length (record_of x))

-- questions 11 to 14, of an image and a buffer of that length
unfoldable pub store_questions : ℕ → Option (List Image) → Image → List Question
store_questions size images x =
    record { number = 11; applies = is_broken size images }
    ∷ record { number = 12; applies = any_of (share_id x) (among images) }
    ∷ record { number = 13; applies = any_of (clash x) (among images) }
    ∷ record { number = 14; applies = no_space size (among images) x }
    ∷ []

-- question 10, and then those
unfoldable pub image_questions : ℕ → Option (List Image) → List ℕ → List ℕ → List Question
image_questions size images id manifest =
    record { number = 10; applies = is_no_id (image_id_of id) } ∷ store_questions size images (image_of id manifest)

-- all questions of a load: 1 to 9 are those of the manifest
unfoldable pub load_questions : ℕ → Option (List Image) → List ℕ → List ℕ → List Question
load_questions size images id manifest = questions manifest ++ image_questions size images id manifest

unfoldable pub load_number : List ℕ → List ℕ → List ℕ → ℕ → ℕ
load_number id manifest buffer used = lowest (load_questions (length buffer) (held buffer used) id manifest)

-- by the number n of an answer: the new used count, 0 in a refusal; and the buffer, of which a refusal changes no byte
unfoldable pub used_after : ℕ → Image → ℕ → ℕ
used_after n x used = elim (eqb n 0) [ true ↦ used + length (record_of x) | false ↦ 0 ]

unfoldable pub bytes_after : ℕ → Image → List ℕ → ℕ → List ℕ
bytes_after n x buffer used = elim (eqb n 0) [ true ↦ appended buffer used (record_of x) | false ↦ buffer ]

unfoldable pub load_used : List ℕ → List ℕ → List ℕ → ℕ → ℕ
load_used id manifest buffer used = used_after (load_number id manifest buffer used) (image_of id manifest) used

unfoldable pub load_bytes : List ℕ → List ℕ → List ℕ → ℕ → List ℕ
load_bytes id manifest buffer used = bytes_after (load_number id manifest buffer used) (image_of id manifest) buffer used
