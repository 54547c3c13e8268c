-- What the number 0 of a load tells, and that the images then make a sound store. Assumes nothing.
use Rattle.std.specs.Prelude.{Option, None, Some}
use Prim.Native.Nat.{ℕ, ◌-◌, ◌≤◌, ◌<◌}
use mathlib.Core.Path.{◌≡◌, refl, sym, ap, ◌∙◌}
use mathlib.Core.List.{List, [], ◌∷◌, ◌++◌, append-nil}
use mathlib.Core.Bool.{Bool, true, false, ◌||◌}
use native.Mathlib.Omega.{arith}
use borrow.Author.Tests.{eqb-true, eqb-false, eq-eqb}
use lib.Dec.{eqb}
use lib.ListN.{length, length-append}
use Rattle.laws.specs.Any.{any_of, any_pair}
use Rattle.laws.proofs.Any.{any_both, any_pointwise}
use Rattle.laws.proofs.Order.{by_test}
use Rattle.text.specs.Answer.{form}
use Rattle.text.specs.Question.{lowest}
use Rattle.text.proofs.Forms.{form_canonical}
use Rattle.reference.specs.References.{image_id_of}
use Rattle.manifest.specs.Number.{manifest_text_number}
use Rattle.manifest.proofs.Asking.{none_asked, asked_after, asked_of_manifest}
use Rattle.manifest.proofs.Questions.{good_as_text}
use Rattle.manifest.proofs.Canonical.{form_number}
use Rattle.store_record.specs.Image.{Image}
use Rattle.store_record.specs.Ids.{share_id, id_twice}
use Rattle.store_record.specs.Record.{record_of}
use Rattle.store_record.specs.Store.{store_of, AllShaped, none_shaped, shaped}
use Rattle.store_record.proofs.Sharing.{share_id_sym}
use Rattle.store_record.proofs.Stores.{store_both}
use Rattle.store_keys.specs.Clash.{clash, any_clash}
use Rattle.store_conflict.proofs.Clashing.{Single, clash_sym}
use Rattle.store_open.specs.Held.{is_unfit, are_unsound}
use Rattle.store.specs.Load.{image_of, is_no_id, store_questions, image_questions, load_questions}
use Rattle.store_open.proofs.Holding.{shaped_single, parts_sound, sound_parts}
use Rattle.store.proofs.Images.{shaped_image}
use Rattle.store.proofs.Steps.{unread_asked, none_of_store}

-- what is known of a load that gets the number 0, of images in a buffer of that size
pub record Accepted (size : ℕ) (xs : List Image) (id manifest : List ℕ) : Type 0 where
  pub good : manifest_text_number manifest ≡ 0
  pub known : is_no_id (image_id_of id) ≡ false
  pub sound : are_unsound size xs ≡ false
  pub new : any_of (share_id (image_of id manifest)) xs ≡ false
  pub apart : any_of (clash (image_of id manifest)) xs ≡ false
  pub few : length xs < 64
  pub fits : length (record_of (image_of id manifest)) ≤ size - length (store_of xs)

-- the questions of the manifest come first
module _ (size : ℕ) (images : Option (List Image)) (id manifest : List ℕ) (e : lowest (load_questions size images id manifest) ≡ 0) where
  good_manifest : manifest_text_number manifest ≡ 0
  unfolding load_questions
  good_manifest =
      by_test (eqb (manifest_text_number manifest) 0)
      (λ f. eqb-true (manifest_text_number manifest) 0 f)
      (λ f. sym (asked_of_manifest manifest (image_questions size images id manifest) (eqb-false (manifest_text_number manifest) 0 f)) ∙ e)

  of_image : lowest (image_questions size images id manifest) ≡ 0
  unfolding load_questions
  of_image = sym (asked_after manifest (image_questions size images id manifest) good_manifest) ∙ e

  -- and then those of the image
  of_store : (is_no_id (image_id_of id) ≡ false) × (lowest (store_questions size images (image_of id manifest)) ≡ 0)
  unfolding image_questions
  of_store = none_asked _ _ (omega arith) of_image

-- A load of a store that cannot be read is refused.
pub unread_refused : (size : ℕ) (id manifest : List ℕ) → lowest (load_questions size None id manifest) ≡ 0 → ⊥
unread_refused size id manifest e = unread_asked size (image_of id manifest) (of_store size None id manifest e).1

-- A load gets the number 0 only if all of this holds.
pub accepted : (size : ℕ) (xs : List Image) (id manifest : List ℕ) → lowest (load_questions size (Some xs) id manifest) ≡ 0
    → Accepted size xs id manifest
accepted size xs id manifest e =
    let k = of_store size (Some xs) id manifest e in
    let s = none_of_store size (image_of id manifest) xs k.1 in
    record {
      good = good_manifest size (Some xs) id manifest e;
      known = k.0;
      sound = s.0;
      new = s.1;
      apart = s.2;
      few = s.3;
      fits = s.4;
    }

regrouped : (a b c d : Bool) → ((a || (b || false)) || (c || d)) ≡ ((a || c) || (b || d))
regrouped true b c d = refl
regrouped false true true d = refl
regrouped false true false d = refl
regrouped false false true d = refl
regrouped false false false d = refl

-- The pairs of a list with one more element are those of the list, and those of each of its elements with the new one.
pub pair_last : {A : Type 0} (p : A → A → Bool) (xs : List A) (x : A) → any_pair p (xs ++ (x ∷ [])) ≡ (any_pair p xs || any_of (λ (y : A). p y x) xs)
unfolding any_pair any_of
pair_last p [] x = refl
pair_last {A} p (y ∷ ys) x =
    (λ i. any_both (p y) ys (x ∷ []) i || pair_last p ys x i)
    ∙ regrouped (any_of (p y) ys) (p y x) (any_pair p ys) (any_of (λ (z : A). p z x) ys)

-- An image clashes with one of some images, whichever is asked first.
pub any_clash_sym : {x : Image} → Single x → {xs : List Image} → AllShaped xs → any_of (λ (y : Image). clash y x) xs ≡ any_of (clash x) xs
unfolding any_of
any_clash_sym h none_shaped = refl
any_clash_sym h (shaped s t) = λ i. clash_sym (shaped_single s) h i || any_clash_sym h t i

-- The store of some images and one more.
pub store_last : (xs : List Image) (x : Image) → store_of (xs ++ (x ∷ [])) ≡ store_of xs ++ record_of x
unfolding store_of
store_last xs x = store_both xs (x ∷ []) ∙ ap (λ (l : List ℕ). store_of xs ++ l) (append-nil (record_of x))

-- The image of a good manifest is fit for a store.
pub fit_image : (id manifest : List ℕ) → manifest_text_number manifest ≡ 0 → is_unfit (image_of id manifest) ≡ false
unfolding is_unfit image_of
fit_image id manifest e =
    let t = good_as_text manifest e in
    rw (form_canonical manifest t) (rw (eq-eqb (manifest_text_number (form manifest)) 0 (form_number manifest t ∙ e)))

-- After an accepted load the images make a sound store.
pub next_sound : (size : ℕ) (xs : List Image) (id manifest : List ℕ) → AllShaped xs → Accepted size xs id manifest
    → are_unsound size (xs ++ (image_of id manifest ∷ [])) ≡ false
unfolding id_twice any_clash any_of
next_sound size xs id manifest h k =
    let x = image_of id manifest in
    let l = xs ++ (x ∷ []) in
    let p = sound_parts size xs k.sound in
    let c = shaped_single (shaped_image id manifest k.known) in
    parts_sound size l (record {
      few = omega (arith, length-append xs (x ∷ []), k.few);
      fits = omega (arith, ap length (store_last xs x), length-append (store_of xs) (record_of x), p.fits, k.fits);
      fit = any_both is_unfit xs (x ∷ []) ∙ rw (p.fit, fit_image id manifest k.good);
      ids = pair_last share_id xs x ∙ rw (p.ids, any_pointwise (λ (y : Image). share_id y x) (share_id x) (λ y. share_id_sym y x) xs) k.new;
      names = pair_last clash xs x ∙ rw (p.names, any_clash_sym c h) k.apart;
    })
