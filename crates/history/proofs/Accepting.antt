-- A good call whose image makes a sound store with those before it is accepted. Assumes nothing.
use Rattle.std.specs.Prelude.{Some}
use Prim.Native.Nat.{ℕ, ◌-◌, ◌≤◌, ◌<◌}
use mathlib.Core.Path.{◌≡◌, refl, sym, ap, ◌∙◌}
use mathlib.Core.List.{List, [], ◌∷◌, ◌++◌}
use mathlib.Core.Bool.{Bool, false, ◌||◌}
use native.Mathlib.Omega.{arith}
use borrow.Author.Tests.{lt-leb, le-ltb}
use lib.ListN.{length, length-append}
use Rattle.laws.specs.Any.{any_of, any_pair}
use Rattle.laws.proofs.Any.{or_none, any_both, any_pointwise}
use Rattle.reference.specs.References.{image_id_of}
use Rattle.manifest.specs.Number.{manifest_text_number}
use Rattle.manifest.proofs.Asking.{nothing_asked, asked_none, asked_after}
use Rattle.store_record.specs.Image.{Image}
use Rattle.store_record.specs.Ids.{share_id, id_twice}
use Rattle.store_record.specs.Record.{record_of}
use Rattle.store_record.specs.Store.{most_images, store_of, AllShaped}
use Rattle.store_record.proofs.Sharing.{share_id_sym}
use Rattle.store_record.proofs.Stores.{store_both}
use Rattle.store_keys.specs.Clash.{clash, any_clash}
use Rattle.store_open.specs.Held.{is_unfit, are_unsound, is_broken, among}
use Rattle.store.specs.Load.{is_no_id, no_space, store_questions, image_questions, load_questions}
use Rattle.store_open.proofs.Holding.{shaped_single, sound_parts, parts_sound}
use Rattle.store.proofs.Images.{shaped_image}
use Rattle.store.proofs.Accepting.{pair_last, any_clash_sym, store_last}
use Rattle.history.specs.Calls.{Call}
use Rattle.history.specs.Ledger.{ledger_number}
use Rattle.history.proofs.Stepping.{image, with_image}

-- Where no two elements of a list pass a test, no two of the first of them do.
pub pair_first : {A : Type 0} (p : A → A → Bool) (xs ys : List A) → any_pair p (xs ++ ys) ≡ false → any_pair p xs ≡ false
unfolding any_pair
pair_first p [] ys e = refl
pair_first p (x ∷ xs) ys e =
    let k = or_none (any_of (p x) (xs ++ ys)) (any_pair p (xs ++ ys)) e in
    let f = or_none (any_of (p x) xs) (any_of (p x) ys) (sym (any_both (p x) xs ys) ∙ k.0) in
    λ i. f.0 i || pair_first p xs ys k.1 i

-- Where no two elements of a list pass a test, the last passes it with none of those before.
pub pair_with_last : {A : Type 0} (p : A → A → Bool) (xs : List A) (x : A) → any_pair p (xs ++ (x ∷ [])) ≡ false → any_of (λ (y : A). p y x) xs ≡ false
pair_with_last {A} p xs x e = (or_none (any_pair p xs) (any_of (λ (y : A). p y x) xs) (sym (pair_last p xs x) ∙ e)).1

-- The first of some images that make a sound store make one.
pub sound_first : (size : ℕ) (xs ys : List Image) → are_unsound size (xs ++ ys) ≡ false → are_unsound size xs ≡ false
unfolding id_twice any_clash
sound_first size xs ys e =
    let k = sound_parts size (xs ++ ys) e in
    parts_sound size xs (record {
      few = omega (arith, k.few, length-append xs ys);
      fits = omega (arith, k.fits, ap length (store_both xs ys), length-append (store_of xs) (store_of ys));
      fit = (or_none _ _ (sym (any_both is_unfit xs ys) ∙ k.fit)).0;
      ids = pair_first share_id xs ys k.ids;
      names = pair_first clash xs ys k.names;
    })

-- a call that no store refuses for its own sake: questions 1 to 10 do not apply
pub record Good (c : Call) : Type 0 where
  pub manifest : manifest_text_number c.manifest ≡ 0
  pub known : is_no_id (image_id_of c.id) ≡ false

-- a good call whose image makes a sound store with those before it
module _ (size : ℕ) (xs : List Image) (c : Call) (g : Good c) (h : AllShaped xs) (e : are_unsound size (with_image xs c) ≡ false) where
  image_new : any_of (share_id (image c)) xs ≡ false
  unfolding id_twice
  image_new =
      sym (any_pointwise (λ (y : Image). share_id y (image c)) (share_id (image c)) (λ y. share_id_sym y (image c)) xs)
      ∙ pair_with_last share_id xs (image c) (sound_parts size (with_image xs c) e).ids

  image_apart : any_of (clash (image c)) xs ≡ false
  unfolding any_clash
  image_apart =
      sym (any_clash_sym (shaped_single (shaped_image c.id c.manifest g.known)) h)
      ∙ pair_with_last clash xs (image c) (sound_parts size (with_image xs c) e).names

  image_fits : no_space size xs (image c) ≡ false
  unfolding no_space
  image_fits =
      let x = image c in
      let k = sound_parts size (with_image xs c) e in
      let l : length xs < 64 = omega (arith, k.few, length-append xs (x ∷ [])) in
      let m : length (record_of x) ≤ size - length (store_of xs) =
      omega (arith, k.fits, ap length (store_last xs x), length-append (store_of xs) (record_of x))
      in
      rw (lt-leb most_images (length xs) l, le-ltb (size - length (store_of xs)) (length (record_of x)) m)

  -- It gets the number 0.
  pub number_good : ledger_number size xs c ≡ 0
  unfolding ledger_number load_questions image_questions store_questions is_broken among
  number_good =
      asked_after c.manifest (image_questions size (Some xs) c.id c.manifest) g.manifest
      ∙ asked_none _ _ g.known
      (asked_none _ _ (sound_first size xs (image c ∷ []) e) (asked_none _ _ image_new (asked_none _ _ image_apart (asked_none _ _ image_fits nothing_asked))))
