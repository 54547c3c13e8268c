-- A load of a manifest answers what a load of its canonical form answers. Assumes nothing.
use Prim.Native.Nat.{ℕ, ◌≤◌}
use mathlib.Core.Path.{◌≡◌, sym, ap, subst, ◌∙◌}
use mathlib.Core.List.{List}
use mathlib.Core.Logic.{◌⊎◌}
use borrow.Author.Tests.{eqb-true, eqb-false}
use lib.Dec.{eqb}
use lib.ListN.{length, take}
use Rattle.answer.specs.declared.Answer.{Answer}
use Rattle.answer.specs.declared.TextAnswer.{TextAnswer}
use Rattle.laws.proofs.Order.{by_test}
use Rattle.text.specs.Answer.{form, canonical_number, canonical_length, canonical_bytes, text_place}
use Rattle.text.specs.Question.{text_number}
use Rattle.text.proofs.Forms.{form_again}
use Rattle.text.proofs.Outcome.{number_in_space, form_first}
use Rattle.manifest.specs.Number.{manifest_text_number}
use Rattle.manifest.proofs.Questions.{refused_as_text}
use Rattle.manifest.proofs.Canonical.{form_number}
use Rattle.store_record.specs.Image.{Image}
use Rattle.store.specs.Load.{image_of, image_questions, load_number, load_used, load_bytes}
use Rattle.store.specs.Loading.{Loads, LoadsText}
use Rattle.store.proofs.Steps.{loads_as, refused_number, good_number}

-- The first bytes of a buffer into which a text's form was written are that form.
pub form_there : (s out after : List ℕ) (m n : ℕ) → after ≡ canonical_bytes s out → n ≡ canonical_length s (length out)
    → m ≡ canonical_number s (length out) → m ≡ 0 → take n after ≡ form s
form_there s out after m n b l e z = rw (b, l) (form_first s out (sym e ∙ z))

module _ (id manifest buffer : List ℕ) (used : ℕ) where
  -- A text that gets one of 1 to 6 is refused by that number, whatever the length m of the buffer for its form, if there is space for it.
  pub refused_text : (m : ℕ) → (length manifest ≤ m) ⊎ (16384 ≤ m) → (canonical_number manifest m ≡ 0 → ⊥)
      → canonical_number manifest m ≡ load_number id manifest buffer used
  refused_text m h e =
      let n = number_in_space manifest m h in
      let t = refused_as_text manifest (λ z. e (n ∙ z)) in
      n ∙ sym t ∙ refused_number id manifest buffer used (λ z. e (n ∙ sym t ∙ z))

  module _ (e : text_number manifest ≡ 0) where
    image_same : image_of id (form manifest) ≡ image_of id manifest
    unfolding image_of
    image_same = rw (form_again manifest e)

    number_good : manifest_text_number manifest ≡ 0 → load_number id (form manifest) buffer used ≡ load_number id manifest buffer used
    unfolding image_questions
    number_good z =
        sym (good_number id (form manifest) buffer used (form_number manifest e ∙ z))
        ∙ rw image_same (good_number id manifest buffer used z)

    -- The number of a load of the form is that of a load of the manifest,
    pub number_same : load_number id (form manifest) buffer used ≡ load_number id manifest buffer used
    number_same =
        by_test (eqb (manifest_text_number manifest) 0)
        (λ f. number_good (eqb-true (manifest_text_number manifest) 0 f))
        (λ f. let n = form_number manifest e in
        let h = eqb-false (manifest_text_number manifest) 0 f in
        sym (refused_number id (form manifest) buffer used (λ z. h (sym n ∙ z))) ∙ n ∙ refused_number id manifest buffer used h)

    -- and so are its used count and the bytes that it leaves.
    pub form_loads : {r : Answer} {after : List ℕ} {t : List ℕ} → t ≡ form manifest → Loads (load_number id t buffer used) (image_of id t) buffer used r after
        → Loads (load_number id manifest buffer used) (image_of id manifest) buffer used r after
    form_loads {r} {after} {t} f l =
        loads_as (ap (λ (m : List ℕ). load_number id m buffer used) f ∙ number_same)
        (subst (λ (x : Image). Loads (load_number id t buffer used) x buffer used r after) (ap (image_of id) f ∙ image_same) l)

-- What is told of a load, one fact after the other.
pub told : {id manifest before : List ℕ} {used : ℕ} {r : TextAnswer} {after : List ℕ} → LoadsText id manifest before used r after
    → (r.number ≡ load_number id manifest before used)
    × ((r.value ≡ load_used id manifest before used) × ((after ≡ load_bytes id manifest before used) × (r.place ≡ text_place manifest)))
told l = (l.number, (l.new_used, (l.bytes, l.place)))
