-- What resolve answers once the outcome of the layers is known. Assumes nothing.
use Prim.Native.Nat.{ℕ, ◌≤◌, ◌<◌, ◌-◌}
use mathlib.Core.Path.{◌≡◌, refl, sym, subst, subst₂, ◌∙◌}
use mathlib.Core.List.{List, ◌++◌, map}
use native.Mathlib.Omega.{arith}
use native.Mathlib.Decide.{dec_lt}
use borrow.Author.Tests.{lt-ltb, le-ltb, eq-eqb, ne_eqb}
use lib.ListN.{length, drop, take, length-map, length-drop}
use Rattle.text.specs.Question.{lowest}
use Rattle.manifest.proofs.Asking.{nothing_asked, asked_first, asked_next, asked_none}
use Rattle.lookup_layers.specs.Layers.{LayerDigest, list_of}
use Rattle.lookup_outcome.specs.Outcome.{Outcome, resolved, fails, failure_number, outcome}
use Rattle.lookup_outcome.specs.declared.Failure.{Failure}
use Rattle.lookup_outcome.specs.declared.Failure.TheVariants.{Undefined, Endless, Absent}
use Rattle.lookup_answer.specs.Answers.{has_failed, outcome_number, output_of, layer_questions, value_after, bytes_after, Resolves}
use Rattle.answer.specs.declared.Answer.{Answer}
use Rattle.reference.specs.References.{Layer}
use Rattle.store_record.specs.Image.{Image}
use Rattle.lookup_paths.specs.Follow.{end_of}
use Rattle.lookup_outcome.specs.Resolving.{AllMet, AllFound}
use Rattle.lookup_outcome.proofs.Outcomes.{all_counted}

-- A failure has one of the numbers 17 to 19.
pub failure_bounds : (f : Failure) → (17 ≤ failure_number f) × (failure_number f ≤ 19)
unfolding failure_number
failure_bounds Undefined = (omega arith, omega arith)
failure_bounds Endless = (omega arith, omega arith)
failure_bounds Absent = (omega arith, omega arith)

other_value : (n : ℕ) (o : Outcome) → (n ≡ 0 → ⊥) → ((f : Failure) → n ≡ failure_number f → ⊥) → value_after n o ≡ 0
unfolding value_after
other_value n (resolved ds) h k = rw (ne_eqb n 0 h, value_after)
other_value n (fails i f) h k = rw (ne_eqb n (failure_number f) (k f), value_after)

-- In a refusal the buffer stays.
pub refused_bytes : (n : ℕ) (o : Outcome) (out : List ℕ) → (n ≡ 0 → ⊥) → bytes_after n o out ≡ out
unfolding bytes_after
refused_bytes n o out h = rw (ne_eqb n 0 h, bytes_after)

module _ (space : ℕ) where
  -- A layer that fails gives its number, whatever the space.
  pub fails_number : (k : ℕ) (f : Failure) → lowest (layer_questions (fails k f) space) ≡ failure_number f
  unfolding layer_questions has_failed outcome_number
  fails_number k f = asked_first _ _ refl

  -- Where all are found the number is 0 or 20, by the space.
  pub no_space : (ds : List LayerDigest) → space < length (list_of ds) → lowest (layer_questions (resolved ds) space) ≡ 20
  unfolding layer_questions has_failed outcome_number output_of
  no_space ds h = asked_next _ _ refl ∙ asked_first _ _ (lt-ltb space (length (list_of ds)) h)

  -- Where all are found and the list of their digests fits, the number is 0.
  pub enough_space : (ds : List LayerDigest) → length (list_of ds) ≤ space → lowest (layer_questions (resolved ds) space) ≡ 0
  unfolding layer_questions has_failed outcome_number output_of
  enough_space ds h = asked_none _ _ refl (asked_none _ _ (le-ltb space (length (list_of ds)) h) nothing_asked)

  -- The number is at most 20.
  pub layers_number_small : (o : Outcome) → lowest (layer_questions o space) ≤ 20
  layers_number_small (fails k f) = omega (arith, fails_number k f, failure_bounds f)
  layers_number_small (resolved ds) = by_space (dec_lt space (length (list_of ds)))
    where
      by_space : Dec (space < length (list_of ds)) → lowest (layer_questions (resolved ds) space) ≤ 20
      by_space (yes h) = omega (arith, no_space ds h)
      by_space (no h) = omega (arith, enough_space ds (omega arith))

module _ {before : List ℕ} {r : Answer} {after : List ℕ} where
  -- A refusal for another reason than a layer tells its number and 0, and leaves the buffer.
  pub refused_resolves :
      {m n : ℕ} {o : Outcome} → m ≡ n → (m ≡ 0 → ⊥) → ((f : Failure) → m ≡ failure_number f → ⊥) → (r.number ≡ m) × (r.value ≡ 0)
      → after ≡ before → Resolves n o before r after
  refused_resolves {m} {n} {o} e h k a q =
      subst (λ (i : ℕ). Resolves i o before r after) e
      (record { number = a.0; value = a.1 ∙ sym (other_value m o h k); bytes = q ∙ sym (refused_bytes m o before h) })

  -- An answer may be told of the same outcome in another way.
  pub resolves_as : {m n : ℕ} {o p : Outcome} → m ≡ n → o ≡ p → Resolves m o before r after → Resolves n p before r after
  resolves_as e f k = subst₂ (λ (n : ℕ) (o : Outcome). Resolves n o before r after) e f k

  module _ (space : ℕ) where
    -- of a layer that fails
    fails_told :
        (k : ℕ) (f : Failure) → (r.number ≡ failure_number f) × (r.value ≡ k) → after ≡ before
        → Resolves (lowest (layer_questions (fails k f) space)) (fails k f) before r after
    unfolding value_after
    fails_told k f a q =
        let n = failure_number f in
        let h : n ≡ 0 → ⊥ = λ z. omega (arith, failure_bounds f) in
        subst (λ (i : ℕ). Resolves i (fails k f) before r after) (sym (fails_number space k f))
        (record { number = a.0; value = a.1 ∙ sym (rw (eq-eqb n n refl, value_after)); bytes = q ∙ sym (refused_bytes n (fails k f) before h) })

    -- The first layer that fails gives its number, its index is the value, and the buffer stays.
    pub fails_resolves :
        {o : Outcome} {k : ℕ} {f : Failure} → o ≡ fails k f → (r.number ≡ failure_number f) × (r.value ≡ k) → after ≡ before
        → Resolves (lowest (layer_questions o space)) o before r after
    fails_resolves {o} {k} {f} e a q = subst (λ (x : Outcome). Resolves (lowest (layer_questions x space)) x before r after) (sym e) (fails_told k f a q)

    module _ (ds : List LayerDigest) where
      all_told :
          length (list_of ds) ≤ space → (r.number ≡ 0) × (r.value ≡ length (list_of ds)) → after ≡ list_of ds ++ drop (length (list_of ds)) before
          → Resolves (lowest (layer_questions (resolved ds) space)) (resolved ds) before r after
      unfolding value_after bytes_after output_of
      all_told h a q =
          subst (λ (i : ℕ). Resolves i (resolved ds) before r after) (sym (enough_space space ds h))
          (record { number = a.0; value = a.1; bytes = q })

    module _ {o : Outcome} {ds : List LayerDigest} (e : o ≡ resolved ds) where
      -- Where every layer is found and the list of their digests does not fit, the number is 20.
      pub space_resolves : space < length (list_of ds) → (r.number ≡ 20) × (r.value ≡ 0) → after ≡ before
          → Resolves (lowest (layer_questions o space)) o before r after
      space_resolves h a q =
          subst (λ (x : Outcome). Resolves (lowest (layer_questions x space)) x before r after) (sym e)
          (refused_resolves (sym (no_space space ds h)) (λ z. omega arith) (λ f z. omega (arith, failure_bounds f)) a q)

      -- Where it fits, it is written.
      pub all_resolves : length (list_of ds) ≤ space → (r.number ≡ 0) × (r.value ≡ length (list_of ds))
          → after ≡ list_of ds ++ drop (length (list_of ds)) before → Resolves (lowest (layer_questions o space)) o before r after
      all_resolves h a q =
          subst (λ (x : Outcome). Resolves (lowest (layer_questions x space)) x before r after) (sym e) (all_told ds h a q)

-- The digests of all layers are the references with the first numbers, as many as there are layers.
pub met_counted :
    (present : List LayerDigest) (room : List Image) (refs : List Layer) (objects count : ℕ) {numbers : List ℕ} {n : ℕ}
    (f : AllFound refs (outcome present (map (end_of room) (drop objects refs))) numbers n) → count ≡ length refs - objects
    → AllMet refs (take count numbers) f.digests
met_counted present room refs objects count {numbers} f e =
    let es = map (end_of room) (drop objects refs) in
    let q : length f.digests ≡ count =
    omega (arith, all_counted present es f.digests f.is, length-map (drop objects refs) (end_of room), length-drop objects refs) in
    subst (λ (k : ℕ). AllMet refs (take k numbers) f.digests) q f.met
