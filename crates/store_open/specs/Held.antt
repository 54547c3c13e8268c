-- A well-formed store (document 01, "The room"), part by part.
use Rattle.std.specs.Prelude.{ℕ, Bool, true, false, not, ◌||◌, List, [], leb, ltb, eqb, length, take, Option, None, Some}
use Rattle.laws.specs.Any.{any_of}
use Rattle.text.specs.Answer.{is_canonical}
use Rattle.manifest.specs.Number.{manifest_text_number}
use Rattle.store_record.specs.Image.{Image}
use Rattle.store_record.specs.Ids.{id_twice}
use Rattle.store_record.specs.Store.{most_images, store_of, read_records}
use Rattle.store_keys.specs.Clash.{any_clash}

-- The images that the first `used` bytes of a buffer hold: used is at most the buffer's length, and at most 64 records fill those bytes exactly.
unfoldable pub held : List ℕ → ℕ → Option (List Image)
held buffer used = elim (leb used (length buffer)) [ true ↦ read_records most_images (take used buffer) | false ↦ None ]

-- the images that a store holds; none where it cannot be read, which question 11 has asked before
unfoldable pub among : Option (List Image) → List Image
among None = []
among (Some xs) = xs

-- a manifest that is not canonical, or that gets one of 1 to 9
unfoldable pub is_unfit : Image → Bool
is_unfit x = not (is_canonical x.text) || not (eqb (manifest_text_number x.text) 0)

-- the records of these images do not fit a buffer of that length, or are too many
unfoldable pub too_many : ℕ → List Image → Bool
too_many size xs = ltb most_images (length xs) || ltb size (length (store_of xs))

-- a store of these images in a buffer of that length is not well-formed
unfoldable pub are_unsound : ℕ → List Image → Bool
are_unsound size xs = too_many size xs || (any_of is_unfit xs || (id_twice xs || any_clash xs))

-- 11: the store is not well-formed; `images` are those that it holds, if it can be read
unfoldable pub is_broken : ℕ → Option (List Image) → Bool
is_broken size None = true
is_broken size (Some xs) = are_unsound size xs

unfoldable pub well_formed : List ℕ → ℕ → Bool
well_formed buffer used = not (is_broken (length buffer) (held buffer used))
