-- Words that are built from the last image to the first, and tables of words.
use Prim.Native.Nat.{ℕ, suc, ◌+◌, ◌-◌, ◌*◌, ◌^◌, ◌≤◌, ◌<◌}
use mathlib.Core.Path.{◌≡◌, refl, sym, ap, ap₂, ◌∙◌}
use mathlib.Core.Bool.{Bool, true, false}
use mathlib.Core.List.{List, [], ◌∷◌, map, map-append}
use native.Mathlib.Omega.{arith}
use native.Mathlib.Nat.{mul_comm}
use native.Mathlib.Numerals.{add-one}
use lib.ListN.{length, take, drop, get_or, set, drop_of_length-le, length-set}
use lib.Pow.{pow_mono}
use lib.Seq.{drop-cons, take_all, take-suc, take-suc-set}
use Rattle.policy_marks.specs.Words.{row_of, rows_of}
use Rattle.laws.proofs.Lists.{any_default}
use Rattle.policy_marks.proofs.Words.{row_doubled, row_more, word_more}
use Rattle.store_record.specs.Image.{Image}
use Rattle.store_record.specs.Reading.{held_in, no_record, images_in}
use Rattle.store_record.specs.declared.Survey.{Survey}
use Rattle.store_record.proofs.Walks.{images_length, image_at}

-- the lowest bits of the word w are the marks of the elements from place j on, of n elements; a loop goes down from j = n
pub record Built {A : Type 0} (f : A → Bool) (xs : List A) (n j w : ℕ) : Type 0 where
  pub within : j ≤ n
  pub row : row_of (n - j) w ≡ map f (drop j xs)
  pub small : w < 2 ^ (n - j)

-- the word of no elements is 0; one more element doubles it, and adds 1 if it is marked
module _ {A : Type 0} (f : A → Bool) (xs : List A) (n : ℕ) (size : length xs ≡ n) where
  built_none : Built f xs n n 0
  unfolding row_of
  built_none =
      let e : n - n ≡ 0 = omega arith in
      record { within = omega arith; row = rw (e, drop_of_length-le xs {i = n} (omega arith)); small = rw e (omega arith) }

  module _ (j w : ℕ) (some : 0 < j) (b : Built f xs n j w) (x : A) (at : get_or xs (j - 1) x ≡ x) where
    more : n - (j - 1) ≡ suc (n - j)
    more = omega (arith, b.within)

    front : (m : Bool) → f x ≡ m → map f (drop (j - 1) xs) ≡ m ∷ map f (drop j xs)
    front m e =
        let d : suc (j - 1) ≡ j = omega arith in
        ap (map f) (drop-cons xs (j - 1) x (omega (arith, b.within))) ∙ ap₂ (λ (y : Bool) (k : ℕ). y ∷ map f (drop k xs)) (ap f at ∙ e) d

    built_next : (m : Bool) (v : ℕ) → f x ≡ m → row_of (suc (n - j)) v ≡ m ∷ row_of (n - j) w → v < 2 ^ suc (n - j) → Built f xs n (j - 1) v
    built_next m v e r h =
        record {
          within = omega (arith, b.within);
          row = rw more (r ∙ ap (λ (l : List Bool). m ∷ l) b.row ∙ sym (front m e));
          small = rw more h;
        }

    built_unmarked : f x ≡ false → Built f xs n (j - 1) (w * 2)
    built_unmarked e =
        built_next false (w * 2) e (rw mul_comm (row_doubled (n - j) w)) (omega (arith, word_more (n - j) w 0 b.small (omega arith)))

    built_marked : f x ≡ true → Built f xs n (j - 1) (w * 2 + 1)
    built_marked e =
        built_next true (w * 2 + 1) e (rw mul_comm (row_more (n - j) w 1 (omega arith))) (omega (arith, word_more (n - j) w 1 b.small (omega arith)))

-- At the first element the word has the marks of all.
pub built_all : {A : Type 0} (f : A → Bool) (xs : List A) (n j w : ℕ) → j ≤ 0 → Built f xs n j w → (row_of n w ≡ map f xs) × (w < 2 ^ n)
built_all f xs n j w h b =
    let z : j ≡ 0 = omega arith in
    let e : n - j ≡ n = omega arith in
    (rw (e, z) at b.row, rw e at b.small)

-- of n words the first i are rows of what g makes of the first i elements
pub record Filled {A : Type 0} (g : A → List Bool) (xs : List A) (n i : ℕ) (words : List ℕ) : Type 0 where
  pub within : i ≤ n
  pub space : n ≤ length words
  pub rows : map (row_of n) (take i words) ≡ map g (take i xs)

module _ {A : Type 0} (g : A → List Bool) (xs : List A) (n : ℕ) (words : List ℕ) where
  -- At first no row is there.
  pub filled_none : n ≤ length words → Filled g xs n 0 words
  filled_none h = record { within = omega arith; space = h; rows = refl }

  -- the row of the next element is written at its place
  filled_next : (i w : ℕ) (d : A) → i < n → length xs ≡ n → row_of n w ≡ g (get_or xs i d) → Filled g xs n i words → Filled g xs n (i + 1) (set words i w)
  filled_next i w d h size e b =
      record {
        within = omega arith;
        space = rw length-set b.space;
        rows =
            rw (add-one, take-suc-set words i w (omega (arith, b.space)), take-suc xs i d (omega arith))
            (rw (map-append (row_of n) (take i words) (w ∷ []), map-append, e, b.rows));
      }

  -- at last all rows are there
  filled_all : (i : ℕ) → n ≤ i → length xs ≡ n → Filled g xs n i words → rows_of n words ≡ map g xs
  unfolding rows_of
  filled_all i h size b =
      let e : i ≡ n = omega (arith, b.within) in
      (rw e at b.rows) ∙ ap (map g) (take_all n xs (omega arith))

module _ (s : List ℕ) (v : Survey) (few : v.count ≤ 64) (space : length v.records ≡ 64) where
  fits : v.count ≤ length v.records
  fits = omega arith

  size : length (images_in s v) ≡ v.count
  size = images_length s v fits

  module _ (f : Image → Bool) where
    -- Of no images the word is 0.
    pub images_none : Built f (images_in s v) v.count v.count 0
    images_none = built_none f (images_in s v) v.count size

    module _ (j w : ℕ) (some : 0 < j) (b : Built f (images_in s v) v.count j w) where
      at : get_or (images_in s v) (j - 1) (held_in s (get_or v.records (j - 1) no_record)) ≡ held_in s (get_or v.records (j - 1) no_record)
      at =
          any_default (images_in s v) (j - 1) _ (held_in s no_record) (omega (arith, size, b.within))
          ∙ image_at s v fits (j - 1) (omega (arith, b.within))

      -- The word can be doubled, and 1 added, in 64 bits.
      pub word_fits : w * 2 + 1 < 2 ^ 64
      word_fits =
          let h : v.count - j ≤ 63 = omega arith in
          omega (arith, b.small, pow_mono h)

      -- The image of the record before place j comes next: without a mark it doubles the word,
      pub image_unmarked : f (held_in s (get_or v.records (j - 1) no_record)) ≡ false → Built f (images_in s v) v.count (j - 1) (w * 2)
      image_unmarked e = built_unmarked f (images_in s v) v.count size j w some b _ at e

      -- and with one it adds 1 to that.
      pub image_marked : f (held_in s (get_or v.records (j - 1) no_record)) ≡ true → Built f (images_in s v) v.count (j - 1) (w * 2 + 1)
      image_marked e = built_marked f (images_in s v) v.count size j w some b _ at e

  module _ (g : Image → List Bool) (words : List ℕ) (i : ℕ) (b : Filled g (images_in s v) v.count i words) where
    -- The row of the image of the record at the place reached is written there.
    pub row_written : (w : ℕ) → i < v.count → row_of v.count w ≡ g (held_in s (get_or v.records i no_record))
        → Filled g (images_in s v) v.count (i + 1) (set words i w)
    row_written w h e = filled_next g (images_in s v) v.count words i w (held_in s no_record) h size (e ∙ ap g (sym (image_at s v fits i h))) b

    -- At last the rows of all images are there.
    pub rows_written : v.count ≤ i → rows_of v.count words ≡ map g (images_in s v)
    rows_written h = filled_all g (images_in s v) v.count words i h size b
