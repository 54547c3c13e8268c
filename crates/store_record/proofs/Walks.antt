-- Tests of the elements of a list from a position on, and of the images of a survey: what a loop over positions answers.
use Prim.Native.Nat.{ℕ, ◌+◌, ◌≤◌, ◌<◌}
use mathlib.Core.Path.{◌≡◌, ap, ◌∙◌}
use mathlib.Core.List.{List}
use mathlib.Core.Bool.{Bool, true, false, ◌||◌}
use native.Mathlib.Omega.{arith}
use native.Mathlib.Numerals.{add-one}
use native.Mathlib.Decide.{dec_lt}
use mir.Val.{Val}
use denote.Laws.{Is}
use denote.Struct.Declared.{row}
use lib.ListN.{length, take, drop, get_or, drop_of_length-le, length-map, get_or-map}
use lib.Seq.{drop-cons, get_or-take, length-take-le}
use Rattle.laws.specs.Any.{any_of, any_pair}
use Rattle.store_record.specs.Image.{Image}
use Rattle.store_record.specs.Reading.{held_in, images_in, no_record}
use Rattle.store_record.specs.declared.Survey.{Survey}
use Rattle.store_record.specs.contracts.Survey.{the_type}

module _ {A : Type 0} (p : A → Bool) (xs : List A) (k : ℕ) where
  -- Past the end of a list no element passes.
  pub any_dropped_end : length xs ≤ k → any_of p (drop k xs) ≡ false
  unfolding any_of
  any_dropped_end h = rw (drop_of_length-le xs {i = k} h)

  -- Some element from a position on passes, if the one there does or one after it.
  pub any_dropped : (d : A) → k < length xs → any_of p (drop k xs) ≡ (p (get_or xs k d) || any_of p (drop (k + 1) xs))
  unfolding any_of
  any_dropped d h = rw (add-one, drop-cons xs k d h)

module _ {A : Type 0} (p : A → A → Bool) (xs : List A) (k : ℕ) where
  -- Past the end of a list no two elements pass.
  pub pair_dropped_end : length xs ≤ k → any_pair p (drop k xs) ≡ false
  unfolding any_pair
  pair_dropped_end h = rw (drop_of_length-le xs {i = k} h)

  -- Some two elements from a position on pass, if the one there does with one after it, or two after it do.
  pub pair_dropped : (d : A) → k < length xs → any_pair p (drop k xs) ≡ (any_of (p (get_or xs k d)) (drop (k + 1) xs) || any_pair p (drop (k + 1) xs))
  unfolding any_pair
  pair_dropped d h = rw (add-one, drop-cons xs k d h)

-- The array of a survey has 64 records: what owning a survey, as a parameter `v`, tells.
pub records_size : (v : Survey) {vs : List Val} → Is (row the_type) v vs → length v.records ≡ 64
records_size v g = g.1.1.1.0.1.0.1

module _ (s : List ℕ) (v : Survey) (fits : v.count ≤ length v.records) where
  -- A survey has as many images as it counts.
  pub images_length : length (images_in s v) ≡ v.count
  unfolding images_in
  images_length = length-map (take v.count v.records) (held_in s) ∙ length-take-le v.count v.records fits

  module _ (k : ℕ) where
    -- The image at a position is that of the record there.
    pub image_at : k < v.count → get_or (images_in s v) k (held_in s no_record) ≡ held_in s (get_or v.records k no_record)
    unfolding images_in
    image_at h = get_or-map (held_in s) (take v.count v.records) k no_record ∙ ap (held_in s) (get_or-take v.count v.records k no_record h)

    -- Some image from a position on passes, if that of the record there does or one after it.
    pub any_image : (p : Image → Bool) → k < v.count
        → any_of p (drop k (images_in s v)) ≡ (p (held_in s (get_or v.records k no_record)) || any_of p (drop (k + 1) (images_in s v)))
    any_image p h =
        any_dropped p (images_in s v) k (held_in s no_record) (omega (arith, images_length))
        ∙ ap (λ (x : Image). p x || any_of p (drop (k + 1) (images_in s v))) (image_at h)

    -- Past the last record no image passes.
    pub any_image_end : (p : Image → Bool) → v.count ≤ k → any_of p (drop k (images_in s v)) ≡ false
    any_image_end p h = any_dropped_end p (images_in s v) k (omega (arith, images_length))

    -- Some two images from a position on pass, if that of the record there does with one after it, or two after it do.
    pub pair_image : (p : Image → Image → Bool) → k < v.count
        → any_pair p (drop k (images_in s v)) ≡ (any_of (p (held_in s (get_or v.records k no_record))) (drop (k + 1) (images_in s v))
        || any_pair p (drop (k + 1) (images_in s v)))
    pair_image p h =
        pair_dropped p (images_in s v) k (held_in s no_record) (omega (arith, images_length))
        ∙ ap (λ (x : Image). any_of (p x) (drop (k + 1) (images_in s v)) || any_pair p (drop (k + 1) (images_in s v))) (image_at h)

    -- Past the last record no two images pass.
    pub pair_image_end : (p : Image → Image → Bool) → v.count ≤ k → any_pair p (drop k (images_in s v)) ≡ false
    pair_image_end p h = pair_dropped_end p (images_in s v) k (omega (arith, images_length))

    -- A loop reads the record at a position from the array, whose elements are `no_record` where none stands.
    module _ (h : k < v.count) where
      module _ (p : Image → Bool) where
        -- The image of the record at a position decides if it passes.
        pub any_here : p (held_in s (get_or v.records k no_record)) ≡ true → any_of p (drop k (images_in s v)) ≡ true
        any_here t = any_image p h ∙ ap (λ (b : Bool). b || any_of p (drop (k + 1) (images_in s v))) t

        -- If it does not pass, those after it decide.
        pub any_next : p (held_in s (get_or v.records k no_record)) ≡ false → any_of p (drop k (images_in s v)) ≡ any_of p (drop (k + 1) (images_in s v))
        any_next t = any_image p h ∙ ap (λ (b : Bool). b || any_of p (drop (k + 1) (images_in s v))) t

      module _ (p : Image → Image → Bool) where
        -- The image of the record at a position decides if it passes with one after it.
        pub pair_here : any_of (p (held_in s (get_or v.records k no_record))) (drop (k + 1) (images_in s v)) ≡ true → any_pair p (drop k (images_in s v)) ≡ true
        pair_here t = pair_image p h ∙ ap (λ (b : Bool). b || any_pair p (drop (k + 1) (images_in s v))) t

        -- If it does not, those after it decide.
        pub pair_next : any_of (p (held_in s (get_or v.records k no_record))) (drop (k + 1) (images_in s v)) ≡ false
            → any_pair p (drop k (images_in s v)) ≡ any_pair p (drop (k + 1) (images_in s v))
        pair_next t = pair_image p h ∙ ap (λ (b : Bool). b || any_pair p (drop (k + 1) (images_in s v))) t

  -- Of fewer than two images no two pass.
  pub pair_few : (p : Image → Image → Bool) → v.count < 2 → any_pair p (images_in s v) ≡ false
  pair_few p h = by_count (dec_lt 0 v.count)
    where
      by_count : Dec (0 < v.count) → any_pair p (images_in s v) ≡ false
      by_count (yes m) =
          pair_image 0 p m
          ∙ (λ i. any_image_end 1 (p (held_in s (get_or v.records 0 no_record))) (omega arith) i || pair_image_end 1 p (omega arith) i)
      by_count (no m) = pair_image_end 0 p (omega arith)
