-- The numbers that resolve tells are small. Assumes nothing.
use Prim.Native.Nat.{ℕ, ◌*◌, ◌≤◌, ◌<◌}
use mathlib.Core.Path.{◌≡◌, refl, ap}
use mathlib.Core.List.{List}
use native.Mathlib.Omega.{arith}
use borrow.Author.Tests.{eqb-true}
use lib.Dec.{eqb}
use lib.ListN.{length}
use Rattle.laws.proofs.Order.{by_test}
use Rattle.manifest.proofs.Asking.{asked_small}
use Rattle.lookup_layers.specs.Layers.{LayerDigest, list_of}
use Rattle.lookup_outcome.specs.Outcome.{Outcome, resolved, fails, failure_number}
use Rattle.lookup_outcome.specs.declared.Failure.{Failure}
use Rattle.lookup.specs.Resolve.{resolve_questions, resolve_number, held_outcome, resolve_value}
use Rattle.lookup_image.specs.Layers.{layers_at, outcome_in}
use Rattle.lookup_answer.specs.Answers.{output_of, value_after}
use Rattle.lookup.specs.Resolved.{AllMeet, FirstFails, Asked}
use Rattle.lookup_answer.proofs.Answering.{layers_number_small}
use Rattle.lookup.proofs.Resolved.{resolved_exactly, fails_exactly, met_length, failing_within}
use Rattle.lookup_image.proofs.Layers.{layers_at_few, list_short}
use Rattle.lookup.proofs.Telling.{asked_sound, met_sized, zero_exactly, failure_exactly}

-- an image of a well-formed store, and a layer list
module _ {buffer : List ℕ} {used : ℕ} {list : List ℕ} {place : ℕ} (a : Asked buffer used list place) where
  few_layers : length (layers_at a.images place) ≤ 64
  few_layers = layers_at_few a.images place (asked_sound a).fit

  list_small : {ds : List LayerDigest} → AllMeet a.images a.present (layers_at a.images place) ds → length (list_of ds) ≤ 64 * 49
  list_small m = omega (arith, list_short (met_sized a m), met_length m, few_layers)

  first_small : {k : ℕ} {f : Failure} → FirstFails a.images a.present (layers_at a.images place) k f → k < 64
  first_small m = omega (arith, failing_within m, few_layers)

  -- The output has 64 times 49 bytes at most.
  pub output_small : length (output_of (outcome_in a.images place a.present)) ≤ 64 * 49
  unfolding output_of
  output_small = by_outcome (outcome_in a.images place a.present) refl
    where
      by_outcome : (o : Outcome) → outcome_in a.images place a.present ≡ o → length (output_of o) ≤ 64 * 49
      by_outcome (resolved ds) q = list_small ((resolved_exactly a.images (asked_sound a).names a.present place ds).0 q)
      by_outcome (fails k f) q = omega arith

  -- The first layer that fails has an index below 64.
  pub index_small : (k : ℕ) (f : Failure) → outcome_in a.images place a.present ≡ fails k f → k < 64
  index_small k f q = first_small ((fails_exactly a.images (asked_sound a).names a.present place k f).0 q)

module _ (buffer : List ℕ) (used : ℕ) (list : List ℕ) (place space : ℕ) where
  abbrev number : ℕ
  number = resolve_number buffer used list place space

  -- The number is at most 20.
  pub resolve_number_small : resolve_number buffer used list place space ≤ 20
  unfolding resolve_number resolve_questions
  resolve_number_small =
      asked_small _ _ 20 (omega arith) (asked_small _ _ 20 (omega arith) (asked_small _ _ 20 (omega arith) (layers_number_small space _)))

  -- The value is at most 64 times 49, whatever the buffers hold.
  pub resolve_value_small : resolve_value buffer used list place space ≤ 64 * 49
  unfolding resolve_value value_after
  resolve_value_small = by_outcome (held_outcome buffer used list place) refl
    where
      by_outcome : (o : Outcome) → held_outcome buffer used list place ≡ o → resolve_value buffer used list place space ≤ 64 * 49
      by_outcome (resolved ds) q =
          by_test (eqb number 0)
          (λ t. let w = (zero_exactly buffer used list place space).0 (eqb-true number 0 t) in omega (arith, w.value, list_small w.asked w.meet))
          (λ f. let v : value_after number (resolved ds) ≡ 0 = rw (f, value_after) in omega (arith, ap (value_after number) q))
      by_outcome (fails k g) q =
          by_test (eqb number (failure_number g))
          (λ t. let w = (failure_exactly buffer used list place space g).0 (eqb-true number (failure_number g) t) in
          omega (arith, first_small w.asked w.fails))
          (λ f. let v : value_after number (fails k g) ≡ 0 = rw (f, value_after) in omega (arith, ap (value_after number) q))
