-- Where the fault of a load's manifest stands (request 2026-01): a load refused by one of 2 to 6 is refused by the text's number, so that
-- the laws on the text's place speak of its offset, and every other load tells the offset 0. Assumes nothing.
use Rattle.std.specs.Prelude.{Option}
use Prim.Native.Nat.{ℕ, ◌<◌}
use native.Mathlib.Omega.{arith}
use mathlib.Core.Path.{◌≡◌, sym, subst, ◌∙◌}
use mathlib.Core.Logic.{◌⊎◌, inl, ⊎_elim}
use mathlib.Core.List.{List}
use lib.Dec.{eqb}
use lib.ListN.{length}
use borrow.Author.Tests.{eqb-true, eqb-false}
use Rattle.laws.proofs.Order.{by_test}
use Rattle.text.specs.Question.{lowest, text_number}
use Rattle.text.specs.Answer.{text_place}
use Rattle.text.proofs.Places.{no_place}
use Rattle.manifest.specs.Number.{manifest_text_number}
use Rattle.manifest.proofs.Asking.{nothing_asked, asked_above, asked_after, asked_of_manifest, taken_above}
use Rattle.manifest.proofs.Questions.{refused_as_text}
use Rattle.store_record.specs.Image.{Image}
use Rattle.store_open.specs.Held.{held}
use Rattle.store.specs.Load.{store_questions, image_questions, load_questions, load_number}
use Rattle.store.proofs.Steps.{refused_number}

-- 0, or a number that no text gets
abbrev Above : ℕ → Type 0
Above n = (n ≡ 0) ⊎ (6 < n)

image_above : (size : ℕ) (images : Option (List Image)) (id manifest : List ℕ) → Above (lowest (image_questions size images id manifest))
unfolding image_questions store_questions
image_above size images id manifest =
    asked_above _ _ 6 (omega arith)
    (asked_above _ _ 6 (omega arith)
    (asked_above _ _ 6 (omega arith) (asked_above _ _ 6 (omega arith) (asked_above _ _ 6 (omega arith) (inl nothing_asked)))))

module _ (id manifest buffer : List ℕ) (used : ℕ) where
  load_above : text_number manifest ≡ 0 → Above (load_number id manifest buffer used)
  unfolding load_number load_questions
  load_above e =
      let rs = image_questions (length buffer) (held buffer used) id manifest in
      by_test (eqb (manifest_text_number manifest) 0)
      (λ t. subst Above (sym (asked_after manifest rs (eqb-true (manifest_text_number manifest) 0 t)))
      (image_above (length buffer) (held buffer used) id manifest))
      (λ f. subst Above (sym (asked_of_manifest manifest rs (eqb-false (manifest_text_number manifest) 0 f))) (taken_above manifest e))

  load_as_text : (text_number manifest ≡ 0 → ⊥) → text_number manifest ≡ load_number id manifest buffer used
  load_as_text e = let t = refused_as_text manifest e in sym t ∙ refused_number id manifest buffer used (λ z. e (sym t ∙ z))

  -- A load that is refused by one of 1 to 6 is refused by the number that its manifest gets as a text.
  pub load_text_number : 0 < load_number id manifest buffer used → load_number id manifest buffer used < 7
      → text_number manifest ≡ load_number id manifest buffer used
  load_text_number h l =
      by_test (eqb (text_number manifest) 0)
      (λ t. ⊎_elim (λ z. absurd (omega arith)) (λ g. absurd (omega arith)) (load_above (eqb-true (text_number manifest) 0 t)))
      (λ f. load_as_text (eqb-false (text_number manifest) 0 f))

  -- Where the number of a load is none of 2 to 6, the offset that it tells is 0.
  pub load_no_place : (load_number id manifest buffer used < 2) ⊎ (6 < load_number id manifest buffer used) → text_place manifest ≡ 0
  load_no_place h =
      by_test (eqb (text_number manifest) 0)
      (λ t. no_place manifest (inl (omega (arith, eqb-true (text_number manifest) 0 t))))
      (λ f. no_place manifest (subst (λ (n : ℕ). (n < 2) ⊎ (6 < n)) (sym (load_as_text (eqb-false (text_number manifest) 0 f))) h))
