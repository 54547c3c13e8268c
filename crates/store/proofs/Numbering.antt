-- Questions 11 to 14 of an image and a store whose records were read. Assumes nothing.
use Rattle.std.specs.Prelude.{Option, Some}
use Prim.Native.Nat.{ℕ, ◌+◌, ◌-◌, ◌≤◌, ◌<◌}
use mathlib.Core.Path.{◌≡◌, refl, sym, ap, ◌∙◌}
use mathlib.Core.List.{List}
use mathlib.Core.Bool.{Bool, true, false, not, ◌||◌, or-false, or-true}
use native.Mathlib.Omega.{arith}
use borrow.Author.Tests.{lt-ltb, le-ltb, le-leb, lt-leb, eqb-true, eqb-false, ltb-true, ltb-false}
use lib.Dec.{eqb, leb, ltb}
use lib.ListN.{length, take, get_or}
use Rattle.laws.specs.Any.{any_of}
use Rattle.laws.proofs.Any.{any_map, any_pointwise}
use Rattle.laws.proofs.Order.{by_test}
use Rattle.text.specs.Question.{lowest}
use Rattle.reference_digests.specs.declared.algorithm.Algorithm.{Algorithm}
use Rattle.reference.specs.References.{image_id}
use Rattle.manifest.specs.Opened.{Places}
use Rattle.manifest.proofs.Asking.{nothing_asked, asked_first, asked_next, asked_none}
use Rattle.manifest.proofs.Questions.{good_as_text}
use Rattle.store_record.specs.Image.{Image}
use Rattle.store_record.specs.Ids.{has_id, share_id, id_twice}
use Rattle.store_record.specs.Record.{head_size, record_of}
use Rattle.store_record.specs.Store.{most_images, store_of, read_records}
use Rattle.store_record.specs.Reading.{held_in, images_in}
use Rattle.store_record.specs.declared.Survey.{Survey}
use Rattle.store_record.proofs.Records.{head_length, record_short}
use Rattle.store_record.proofs.Stores.{store_read}
use Rattle.store_record.proofs.Walks.{pair_few}
use Rattle.store_keys.specs.Clash.{clash, any_clash}
use Rattle.store_keys.specs.Signed.{one}
use Rattle.store_conflict.proofs.Clashing.{Single, single, clash_form}
use Rattle.store_open.specs.Held.{is_broken, among}
use Rattle.store.specs.Load.{no_space, store_questions}
use Rattle.store.specs.Loading.{Readied}
use Rattle.store_append.specs.Append.{image_with, Digests, NumberLeft}
use Rattle.store_append.proofs.Appending.{record_length}

module _ (a : Algorithm) (signer digest text : List ℕ) where
  -- The image shares its one ID with those that have it.
  pub shares_held : (xs : List Image) → any_of (share_id (image_with a signer digest text)) xs ≡ any_of (has_id (image_id a signer digest)) xs
  unfolding share_id any_of
  shares_held xs = any_pointwise _ _ (λ y. or-false (has_id (image_id a signer digest) y)) xs

  -- The image clashes with those of a store that its manifest clashes with: no key has the manifest's digest.
  pub clashes_held : {p : Places} → Readied text p → (b : List ℕ) (v : Survey)
      → any_of (clash (image_with a signer digest text)) (images_in b v) ≡ any_of (clash (one a signer text)) (images_in b v)
  unfolding images_in held_in
  clashes_held k b v =
      let rs = take v.count v.records in
      let one_of : (y : Image) → Single y → clash (image_with a signer digest text) y ≡ clash (one a signer text) y =
      λ y s. ap (λ (t : List ℕ). clash (image_with a signer digest t) y) (sym k.own)
      ∙ clash_form a signer digest text (good_as_text text k.opens.good) s
      in
      any_map (held_in b) (clash (image_with a signer digest text)) rs
      ∙ any_pointwise _ _ (λ r. one_of (held_in b r) single) rs
      ∙ sym (any_map (held_in b) (clash (one a signer text)) rs)

  module _ (d : Digests a signer digest) where
    -- The length of the image's record, which is small.
    pub record_size : length (record_of (image_with a signer digest text)) ≡ head_size a (length text) + length text
    record_size =
        record_length a signer digest text
        ∙ ap (λ (k : ℕ). k + length text) (head_length a signer digest (length text) d.signer_size d.digest_size)

    -- The head of a record and a text of at most 16,384 bytes have at most 16,484 bytes together.
    pub size_small : length text ≤ 16384 → head_size a (length text) + length text ≤ 16484
    size_small h =
        omega (
          arith,
          record_size,
          record_short (image_with a signer digest text)
              (record { algorithm = a; signer = signer; manifest = digest; ids = refl; signer_size = d.signer_size; manifest_size = d.digest_size })
              h,
        )

-- Of fewer than two images no two have an ID in common, and no two clash.
pub few_apart : (b : List ℕ) (v : Survey) → v.count ≤ length v.records → v.count < 2
    → true ≡ not (id_twice (images_in b v) || any_clash (images_in b v))
unfolding id_twice any_clash
few_apart b v f h = rw (pair_few b v f share_id h, pair_few b v f clash h)

-- 14, of records that fill the bytes, after which `left` are free
module _ (b : List ℕ) (bytes : (j : ℕ) → get_or b j 0 < 256) (xs : List Image) (e : read_records most_images b ≡ Some xs) (left : ℕ) (x : Image) where
  free_is : (length b + left) - length (store_of xs) ≡ left
  free_is = omega (arith, ap length (store_read most_images b xs bytes e).0)

  -- If a store holds 64 images or more, there is no space for another.
  pub too_many_held : most_images ≤ length xs → no_space (length b + left) xs x ≡ true
  unfolding no_space
  too_many_held h = rw (le-leb most_images (length xs) h)

  -- If the record is longer than the bytes that are free, there is no space for it.
  pub record_too_long : left < length (record_of x) → no_space (length b + left) xs x ≡ true
  unfolding no_space
  record_too_long h = rw (free_is, lt-ltb left (length (record_of x)) h) (or-true (leb most_images (length xs)))

  -- If a store holds fewer than 64 images and the record is not longer than the bytes that are free, there is space for it.
  pub space_left : length xs < most_images → length (record_of x) ≤ left → no_space (length b + left) xs x ≡ false
  unfolding no_space
  space_left h l = rw (lt-leb most_images (length xs) h, free_is) (le-ltb left (length (record_of x)) l)

-- The images of a store that could be read are those that were read.
pub read_among : (b : List ℕ) (xs : List Image) → read_records most_images b ≡ Some xs → among (read_records most_images b) ≡ xs
unfolding among
read_among b xs e = ap among e

-- The questions one after the other.
module _ (size : ℕ) (images : Option (List Image)) (x : Image) where
  abbrev Number : ℕ → Type 0
  Number n = n ≡ lowest (store_questions size images x)

  -- Of a store that is not well-formed the number is 11.
  pub number_11 : is_broken size images ≡ true → Number 11
  unfolding store_questions
  number_11 e = sym (asked_first _ _ e)

  module _ (sound : is_broken size images ≡ false) where
    -- If the store is well-formed and the image has an ID of an image in it, the number is 12.
    pub number_12 : any_of (share_id x) (among images) ≡ true → Number 12
    unfolding store_questions
    number_12 e = sym (asked_next _ _ sound ∙ asked_first _ _ e)

    module _ (other : any_of (share_id x) (among images) ≡ false) where
      -- If it has no such ID and clashes with an image in the store, the number is 13.
      pub number_13 : any_of (clash x) (among images) ≡ true → Number 13
      unfolding store_questions
      number_13 e = sym (asked_next _ _ sound ∙ asked_next _ _ other ∙ asked_first _ _ e)

      module _ (apart : any_of (clash x) (among images) ≡ false) where
        -- If it clashes with none either and there is no space for it, the number is 14.
        pub number_14 : no_space size (among images) x ≡ true → Number 14
        unfolding store_questions
        number_14 e = sym (asked_next _ _ sound ∙ asked_next _ _ other ∙ asked_next _ _ apart ∙ asked_first _ _ e)

        -- If none of questions 11 to 14 applies, the number is 0.
        pub number_0 : no_space size (among images) x ≡ false → Number 0
        unfolding store_questions
        number_0 e = sym (asked_none _ _ sound (asked_none _ _ other (asked_none _ _ apart (asked_none _ _ e nothing_asked))))

-- of a store whose records were read, where neither 11 nor 12 applies
module _ (b : List ℕ) (bytes : (j : ℕ) → get_or b j 0 < 256) (xs : List Image) (e : read_records most_images b ≡ Some xs) (left : ℕ) (x : Image)
    (sound : is_broken (length b + left) (read_records most_images b) ≡ false) (other : any_of (share_id x) (among (read_records most_images b)) ≡ false) where
  space_of : no_space (length b + left) (among (read_records most_images b)) x ≡ no_space (length b + left) xs x
  space_of = ap (λ (ys : List Image). no_space (length b + left) ys x) (read_among b xs e)

  -- The number that is left is that of 13 or 14, whichever applies first.
  pub number_rest : {clashing : Bool} → any_of (clash x) (among (read_records most_images b)) ≡ clashing → (long count n : ℕ) → length (record_of x) ≡ long
      → length xs ≡ count → count ≤ most_images → NumberLeft long count left clashing n → Number (length b + left) (read_records most_images b) x n
  number_rest {clashing} f long count n m k few l =
      by_test clashing (λ t. l.clashes t ∙ number_13 _ _ x sound other (f ∙ t)) (λ t. by_test (eqb count most_images)
      (λ g. l.too_many t (eqb-true count most_images g)
      ∙ number_14 _ _ x sound other (f ∙ t) (space_of ∙ too_many_held b bytes xs e left x (omega (arith, eqb-true count most_images g))))
      (λ g. by_test (ltb left long)
      (λ h. l.too_long t (ltb-true left long h) ∙ number_14 _ _ x sound other (f ∙ t) (space_of
      ∙ record_too_long b bytes xs e left x (omega (arith, ltb-true left long h))))
      (λ h. l.none t (eqb-false count most_images g) (ltb-false left long h)
      ∙ number_0 _ _ x sound other (f ∙ t)
      (space_of ∙ space_left b bytes xs e left x (omega (arith, eqb-false count most_images g)) (omega (arith, ltb-false left long h))))))
