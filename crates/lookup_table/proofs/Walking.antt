-- The images of a store, one after the other: their objects have the lower numbers, and their keys are linked. Assumes nothing.
use Prim.Native.Nat.{ℕ, suc, ◌+◌, ◌<◌, ◌≤◌}
use mathlib.Core.Path.{◌≡◌, refl, sym, ap, ◌∙◌}
use mathlib.Core.List.{List, [], ◌∷◌, ◌++◌, append_assoc, append-nil}
use native.Mathlib.Omega.{arith}
use native.Mathlib.Numerals.{add-one}
use lib.ListN.{length, take, drop, get_or, length-append, get_or-append}
use lib.Seq.{take-suc, take_all, split_at, get_or-append-add}
use Rattle.reference.specs.References.{Layer, no_layer}
use Rattle.manifest.specs.Names.{objects}
use Rattle.store_record.specs.Image.{Image}
use Rattle.store_record.specs.Reading.{between, held_in, images_in, no_record}
use Rattle.store_record.specs.declared.Survey.{Survey}
use Rattle.store_record.proofs.Walks.{images_length, image_at}
use Rattle.store_keys.specs.Keys.{LayerKey, layer_keys}
use Rattle.lookup_paths.specs.Follow.{keys_in, objects_of}
use Rattle.lookup_table.specs.Linking.{ObjectsFrom}

objects_both : (xs ys : List Image) → objects_of (xs ++ ys) ≡ objects_of xs ++ objects_of ys
unfolding objects_of
objects_both [] ys = refl
objects_both (x ∷ xs) ys =
    ap (λ (l : List Layer). objects x.text ++ l) (objects_both xs ys) ∙ sym (append_assoc (objects x.text) (objects_of xs) (objects_of ys))

keys_both : (xs ys : List Image) → keys_in (xs ++ ys) ≡ keys_in xs ++ keys_in ys
unfolding keys_in
keys_both [] ys = refl
keys_both (x ∷ xs) ys = ap (λ (l : List LayerKey). layer_keys x ++ l) (keys_both xs ys) ∙ sym (append_assoc (layer_keys x) (keys_in xs) (keys_in ys))

module _ (xs : List Image) (j : ℕ) (x d : Image) (h : j < length xs) (here : get_or xs j d ≡ x) where
  one_more : take (j + 1) xs ≡ take j xs ++ (x ∷ [])
  one_more =
      ap (λ (n : ℕ). take n xs) (add-one j) ∙ take-suc xs j d h ∙ ap (λ (y : Image). take j xs ++ (y ∷ [])) here

  objects_one : objects_of (take (j + 1) xs) ≡ objects_of (take j xs) ++ objects x.text
  unfolding objects_of
  objects_one = ap objects_of one_more ∙ objects_both (take j xs) (x ∷ []) ∙ ap (λ (l : List Layer). objects_of (take j xs) ++ l) (append-nil (objects x.text))

  keys_one : keys_in (take (j + 1) xs) ≡ keys_in (take j xs) ++ layer_keys x
  unfolding keys_in
  keys_one = ap keys_in one_more ∙ keys_both (take j xs) (x ∷ []) ∙ ap (λ (l : List LayerKey). keys_in (take j xs) ++ l) (append-nil (layer_keys x))

  -- the objects before those of the image, its own, and those after them
  parted : (ls : List Layer) → (ms : List Layer) × (objects_of xs ++ ls ≡ objects_of (take j xs) ++ (objects x.text ++ ms))
  unfolding objects_of
  parted ls =
      let after = drop (suc j) xs in
      let whole : xs ≡ take j xs ++ (x ∷ after) = split_at xs j d h ∙ ap (λ (y : Image). take j xs ++ (y ∷ after)) here in (
        objects_of after ++ ls,
        ap (λ (l : List Layer). l ++ ls) (ap objects_of whole ∙ objects_both (take j xs) (x ∷ after))
            ∙ append_assoc (objects_of (take j xs)) (objects x.text ++ objects_of after) ls
            ∙ ap (λ (l : List Layer). objects_of (take j xs) ++ l) (append_assoc (objects x.text) (objects_of after) ls),
      )

  objects_from : (ls : List Layer) → ObjectsFrom (objects_of xs ++ ls) (length (objects_of (take j xs))) (objects x.text)
  objects_from ls =
      let w = parted ls in
      let front = objects_of (take j xs) in
      record {
        within = omega (arith, ap length w.1, length-append front (objects x.text ++ w.0), length-append (objects x.text) w.0);
        each = λ o l.
            ap (λ (k : List Layer). get_or k (length front + o) no_layer) w.1
            ∙ get_or-append-add front (objects x.text ++ w.0) o no_layer
            ∙ get_or-append (objects x.text) w.0 no_layer o l;
      }

-- the image of record j
module _ (b : List ℕ) (v : Survey) (fits : v.count ≤ length v.records) (j : ℕ) (h : j < v.count) where
  abbrev image : Image
  image = held_in b (get_or v.records j no_record)

  abbrev text : List ℕ
  text = between b (get_or v.records j no_record).text (get_or v.records j no_record).end

  before_end : j < length (images_in b v)
  before_end = omega (arith, images_length b v fits)

  is_here : get_or (images_in b v) j (held_in b no_record) ≡ image
  is_here = image_at b v fits j h

  -- One more image has its objects after those of the images before it.
  pub objects_next : objects_of (take (j + 1) (images_in b v)) ≡ objects_of (take j (images_in b v))
      ++ objects (between b (get_or v.records j no_record).text (get_or v.records j no_record).end)
  unfolding held_in
  objects_next = objects_one (images_in b v) j image (held_in b no_record) before_end is_here

  -- It has its keys after theirs.
  pub keys_after : keys_in (take (j + 1) (images_in b v)) ≡ keys_in (take j (images_in b v)) ++ layer_keys (held_in b (get_or v.records j no_record))
  keys_after = keys_one (images_in b v) j image (held_in b no_record) before_end is_here

  -- Among the references its objects have the numbers from there on.
  pub image_objects : (ls : List Layer)
      → ObjectsFrom (objects_of (images_in b v) ++ ls) (length (objects_of (take j (images_in b v))))
      (objects (between b (get_or v.records j no_record).text (get_or v.records j no_record).end))
  unfolding held_in
  image_objects ls = objects_from (images_in b v) j image (held_in b no_record) before_end is_here ls

-- All images are those of the survey.
pub all_images : (b : List ℕ) (v : Survey) → v.count ≤ length v.records → (j : ℕ) → j ≡ v.count → take j (images_in b v) ≡ images_in b v
all_images b v fits j e = take_all j (images_in b v) (omega (arith, images_length b v fits))
