-- The questions of resolve one after the other, of a buffer whose bytes in use were opened. Assumes nothing.
use Rattle.std.specs.Prelude.{Option, None, Some}
use Prim.Native.Nat.{ℕ, ◌≤◌, ◌<◌}
use mathlib.Core.Path.{◌≡◌, refl, sym, ap, ◌∙◌}
use mathlib.Core.Bool.{true, false, not}
use mathlib.Core.List.{List}
use borrow.Author.Tests.{le-leb, lt-leb}
use lib.Dec.{leb}
use lib.ListN.{length, take, get_or}
use Rattle.laws.proofs.Order.{false_true}
use Rattle.text.specs.Question.{lowest}
use Rattle.manifest.proofs.Asking.{asked_first, asked_next}
use Rattle.store_record.specs.Image.{Image}
use Rattle.store_record.specs.Store.{most_images, read_records}
use Rattle.store_keys.specs.Clash.{any_clash}
use Rattle.store_open.specs.Held.{held, is_broken, among}
use Rattle.store_open.proofs.Holding.{sound_parts, held_in_use, broken_in_use}
use Rattle.lookup_layers.specs.Layers.{LayerDigest, layers_in, is_given, is_list}
use Rattle.lookup_layers.specs.Reading.{SomeList}
use Rattle.lookup.specs.Resolve.{resolve_questions, resolve_number, held_outcome}
use Rattle.lookup_image.specs.Layers.{present_in, outcome_in}
use Rattle.lookup_answer.specs.Answers.{layer_questions}

-- Bytes that are a layer list are the list of some layers.
pub some_list : (list : List ℕ) → is_list list ≡ true → SomeList list
unfolding is_list is_given
some_list list e = by_layers (layers_in list) refl
  where
    by_layers : (o : Option (List LayerDigest)) → layers_in list ≡ o → SomeList list
    by_layers None q = false_true (sym (ap is_given q) ∙ e)
    by_layers (Some ds) q = record { layers = ds; is = q }

-- The images of a store that is not broken do not clash.
pub unbroken_apart : (size : ℕ) (o : Option (List Image)) (xs : List Image) → o ≡ Some xs → is_broken size o ≡ false → any_clash xs ≡ false
unfolding is_broken
unbroken_apart size o xs q e = (sound_parts size xs (sym (ap (is_broken size) q) ∙ e)).names

-- the images that are read in the bytes in use of a buffer
module _ (buffer : List ℕ) (used : ℕ) (h : used ≤ length buffer) (xs : List Image) (reads : read_records most_images (take used buffer) ≡ Some xs) where
  its_images : among (held buffer used) ≡ xs
  unfolding among
  its_images = ap among (held_in_use buffer used h ∙ reads)

  -- The outcome is that of the layers of one of them.
  pub outcome_held : (list : List ℕ) (place : ℕ) → outcome_in xs place (present_in (layers_in list)) ≡ held_outcome buffer used list place
  unfolding held_outcome
  outcome_held list place = ap (λ (ys : List Image). outcome_in ys place (present_in (layers_in list))) (sym its_images)

module _ (buffer : List ℕ) (used : ℕ) (list : List ℕ) (place space : ℕ) where
  -- Nothing is held where more bytes are in use than there are.
  pub number_past : length buffer < used → 11 ≡ resolve_number buffer used list place space
  unfolding resolve_number resolve_questions held is_broken
  number_past h = sym (asked_first _ _ (rw (lt-leb used (length buffer) h, held)))

  module _ (h : used ≤ length buffer) (bytes : (k : ℕ) → get_or buffer k 0 < 256) where
    -- Bytes that are no store are refused.
    pub number_broken : is_broken (length (take used buffer)) (read_records most_images (take used buffer)) ≡ true
        → 11 ≡ resolve_number buffer used list place space
    unfolding resolve_number resolve_questions
    number_broken e = sym (asked_first _ _ (broken_in_use buffer used h bytes ∙ e))

    module _ (sound : is_broken (length (take used buffer)) (read_records most_images (take used buffer)) ≡ false) where
      whole : is_broken (length buffer) (held buffer used) ≡ false
      whole = broken_in_use buffer used h bytes ∙ sound

      -- So are bytes that are no layer list.
      pub number_unlisted : is_list list ≡ false → 15 ≡ resolve_number buffer used list place space
      unfolding resolve_number resolve_questions is_list
      number_unlisted e = sym (asked_next _ _ whole ∙ asked_first _ _ (ap not e))

      module _ (given : is_list list ≡ true) (xs : List Image) (reads : read_records most_images (take used buffer) ≡ Some xs) where
        -- A place without an image is refused.
        pub number_missing : length xs ≤ place → 16 ≡ resolve_number buffer used list place space
        unfolding resolve_number resolve_questions is_list
        number_missing l =
            sym (asked_next _ _ whole ∙ asked_next _ _ (ap not given)
            ∙ asked_first _ _ (ap (λ (ys : List Image). leb (length ys) place) (its_images buffer used h xs reads) ∙ le-leb (length xs) place l))

        -- Of an image that is there its layers decide, and then the space.
        pub number_layers : place < length xs
            → lowest (layer_questions (outcome_in xs place (present_in (layers_in list))) space) ≡ resolve_number buffer used list place space
        unfolding resolve_number resolve_questions is_list held_outcome
        number_layers l =
            ap (λ o. lowest (layer_questions o space)) (outcome_held buffer used h xs reads list place)
            ∙ sym (asked_next _ _ whole ∙ asked_next _ _ (ap not given)
            ∙ asked_next _ _ (ap (λ (ys : List Image). leb (length ys) place) (its_images buffer used h xs reads) ∙ lt-leb (length xs) place l))
