-- The numbers that a load tells are small. Assumes nothing.
use Rattle.std.specs.Prelude.{Option}
use Prim.Native.Nat.{ℕ, ◌*◌, ◌≤◌, ◌<◌}
use mathlib.Core.Path.{◌≡◌}
use mathlib.Core.List.{List}
use mathlib.Core.Bool.{false, not}
use native.Mathlib.Omega.{arith}
use borrow.Author.Tests.{not-false, eqb-true, eqb-false}
use lib.Dec.{eqb}
use lib.ListN.{length, get_or, length-append}
use Rattle.laws.specs.Any.{any_of}
use Rattle.laws.proofs.Any.{or_none}
use Rattle.laws.proofs.Order.{by_test}
use Rattle.text.specs.Answer.{is_canonical}
use Rattle.text.specs.Question.{lowest}
use Rattle.text.proofs.Taken.{taken}
use Rattle.manifest.specs.Number.{manifest_text_number}
use Rattle.manifest.proofs.Asking.{nothing_asked, asked_small, asked_after, asked_of_manifest}
use Rattle.manifest.proofs.Questions.{good_as_text, manifest_small}
use Rattle.store_record.specs.Image.{Image}
use Rattle.store_record.specs.Record.{record_of}
use Rattle.store_record.specs.Store.{store_of, AllShaped, none_shaped, shaped}
use Rattle.store_record.proofs.Records.{record_short}
use Rattle.store_open.specs.Held.{held, is_unfit}
use Rattle.store.specs.Load.{image_of, store_questions, image_questions, load_questions, load_number, load_used}
use Rattle.store.proofs.Images.{shaped_image}
use Rattle.store_open.proofs.Holding.{sound_parts, held_holds, used_is}
use Rattle.store.proofs.Accepting.{fit_image}
use Rattle.store.proofs.Loading.{load_refused, used_accepted, load_accepted, load_keeps}

-- A manifest that is fit for a store has 16384 bytes at most.
pub fit_short : (x : Image) → is_unfit x ≡ false → length x.text ≤ 16384
unfolding is_unfit
fit_short x e =
    let t = x.text in
    let good = eqb (manifest_text_number t) 0 in
    let f = not-false good (or_none (not (is_canonical t)) (not good) e).1 in
    (taken t (good_as_text t (eqb-true (manifest_text_number t) 0 f))).short

-- A store of images that are fit for it has 16484 bytes at most for each.
pub store_short : {xs : List Image} → AllShaped xs → any_of is_unfit xs ≡ false → length (store_of xs) ≤ 16484 * length xs
unfolding store_of any_of
store_short none_shaped e = omega arith
store_short (shaped {x} {xs} s h) e =
    let p = or_none _ _ e in
    omega (arith, length-append (record_of x) (store_of xs), record_short x s (fit_short x p.0), store_short h p.1)

-- The bytes in use after a load are fewer than 2 to the power of 24.
pub load_used_small : (id manifest buffer : List ℕ) (used : ℕ) → ((k : ℕ) → get_or buffer k 0 < 256) → load_used id manifest buffer used < 16777216
load_used_small id manifest buffer used b =
    by_test (eqb (load_number id manifest buffer used) 0)
    (λ t. small (eqb-true (load_number id manifest buffer used) 0 t))
    (λ f. omega (arith, (load_refused id manifest buffer used (eqb-false (load_number id manifest buffer used) 0 f)).0))
  where
    small : load_number id manifest buffer used ≡ 0 → load_used id manifest buffer used < 16777216
    small e =
        let w = load_keeps id manifest buffer used b e in
        let xs = w.images in
        let k = load_accepted id manifest buffer used e xs w.before in
        let o = held_holds buffer used xs b w.before in
        let x = image_of id manifest in
        let r = record_short x (shaped_image id manifest k.known) (fit_short x (fit_image id manifest k.good)) in
        let l = store_short o.each (sound_parts (length buffer) xs k.sound).fit in
        omega (arith, used_accepted id manifest buffer used e, used_is buffer used xs o, k.few)

image_small : (size : ℕ) (images : Option (List Image)) (id manifest : List ℕ) → lowest (image_questions size images id manifest) ≤ 14
unfolding image_questions store_questions
image_small size images id manifest =
    asked_small _ _ 14 (omega arith)
    (asked_small _ _ 14 (omega arith)
    (asked_small _ _ 14 (omega arith)
    (asked_small _ _ 14 (omega arith)
    (asked_small _ _ 14 (omega arith) (omega (arith, nothing_asked))))))

-- The number of a load is 14 at most.
pub load_number_small : (id manifest buffer : List ℕ) (used : ℕ) → load_number id manifest buffer used ≤ 14
unfolding load_number load_questions
load_number_small id manifest buffer used =
    let rs = image_questions (length buffer) (held buffer used) id manifest in
    by_test (eqb (manifest_text_number manifest) 0)
    (λ t. let e = eqb-true (manifest_text_number manifest) 0 t in
    omega (arith, asked_after manifest rs e, image_small (length buffer) (held buffer used) id manifest))
    (λ f. omega (arith, asked_of_manifest manifest rs (eqb-false (manifest_text_number manifest) 0 f), manifest_small manifest))
