-- What the answers of resolve tell of the image's layers, and when they are given. Assumes nothing.
use Rattle.std.specs.Prelude.{Option, None, Some}
use Prim.Native.Nat.{ℕ, ◌≤◌, ◌<◌}
use mathlib.Core.Path.{◌≡◌, refl, sym, ap, ap₂, subst, ◌∙◌}
use mathlib.Core.Logic.{◌↔◌}
use mathlib.Core.Bool.{true, false, not}
use mathlib.Core.List.{List, ◌∷◌}
use native.Mathlib.Omega.{arith}
use native.Mathlib.Decide.{dec_le}
use borrow.Author.Tests.{leb-false, lt-leb, eq-eqb, not-true, not-false}
use lib.Dec.{leb}
use lib.ListN.{length}
use Rattle.laws.proofs.Order.{by_test, false_true}
use Rattle.text.specs.Question.{Question, lowest}
use Rattle.manifest.proofs.Asking.{asked_first, asked_next}
use Rattle.store_record.specs.Image.{Image}
use Rattle.store_open.specs.Held.{held, is_broken, well_formed, among}
use Rattle.store_open.proofs.Holding.{Sound, sound_parts}
use Rattle.lookup_layers.specs.Layers.{LayerDigest, list_of, AllSized, layers_in, is_given}
use Rattle.lookup_layers.proofs.Listing.{list_read_back, read_sized}
use Rattle.lookup_outcome.specs.Outcome.{Outcome, resolved, fails, failure_number}
use Rattle.lookup_outcome.specs.declared.Failure.{Failure}
use Rattle.lookup_outcome.specs.declared.Failure.TheVariants.{Undefined, Endless, Absent}
use Rattle.lookup.specs.Resolve.{resolve_questions, resolve_number, held_outcome, resolve_value, resolve_bytes}
use Rattle.lookup_image.specs.Layers.{layers_at, present_in, outcome_in}
use Rattle.lookup_answer.specs.Answers.{output_of, layer_questions, value_after, bytes_after}
use Rattle.lookup.specs.Resolved.{AllMeet, FirstFails, Asked, Resolved, Unresolved}
use Rattle.lookup_answer.proofs.Answering.{failure_bounds, refused_bytes, fails_number, no_space, enough_space}
use Rattle.lookup.proofs.Resolved.{resolved_exactly, fails_exactly, met_present}
use Rattle.lookup_image.proofs.Layers.{all_sized}

-- a question that does not give its number is passed over
passed : (q : Question) (qs : List Question) → (lowest (q ∷ qs) ≡ q.number → ⊥) → (q.applies ≡ false) × (lowest (q ∷ qs) ≡ lowest qs)
passed q qs h = by_test q.applies (λ t. absurd (h (asked_first q qs t))) (λ f. (f, asked_next q qs f))

-- failures of one number are one
one_failure : (f g : Failure) → failure_number f ≡ failure_number g → f ≡ g
unfolding failure_number
one_failure Undefined Undefined e = refl
one_failure Undefined Endless e = absurd (omega arith)
one_failure Undefined Absent e = absurd (omega arith)
one_failure Endless Undefined e = absurd (omega arith)
one_failure Endless Endless e = refl
one_failure Endless Absent e = absurd (omega arith)
one_failure Absent Undefined e = absurd (omega arith)
one_failure Absent Endless e = absurd (omega arith)
one_failure Absent Absent e = refl

-- an image of a sound store, and a layer list
module _ {buffer : List ℕ} {used : ℕ} {list : List ℕ} {place : ℕ} (a : Asked buffer used list place) where
  -- The images of a well-formed store make a sound store.
  pub asked_sound : Sound (length buffer) a.images
  unfolding well_formed is_broken
  asked_sound = sound_parts (length buffer) a.images (sym (ap (is_broken (length buffer)) a.holds) ∙ not-true _ a.well)

  -- The outcome is that of the image's layers.
  pub its_outcome : held_outcome buffer used list place ≡ outcome_in a.images place a.present
  unfolding held_outcome among present_in
  its_outcome = ap₂ (λ o p. outcome_in (among o) place (present_in p)) a.holds a.reads

  -- The digests that they meet have the lengths of their algorithms, as those of the layer list have.
  pub met_sized : {ds : List LayerDigest} → AllMeet a.images a.present (layers_at a.images place) ds → AllSized ds
  met_sized {ds} m = all_sized (read_sized list a.present a.reads) ds (λ d i. met_present m i)

module _ (buffer : List ℕ) (used : ℕ) (list : List ℕ) (place space : ℕ) where
  abbrev number : ℕ
  number = resolve_number buffer used list place space

  -- 11, 15 and 16 do not apply
  record Past : Type 0 where
    sound : is_broken (length buffer) (held buffer used) ≡ false
    given : is_given (layers_in list) ≡ true
    within : place < length (among (held buffer used))
    rest : number ≡ lowest (layer_questions (held_outcome buffer used list place) space)

  past : (number ≡ 11 → ⊥) → (number ≡ 15 → ⊥) → (number ≡ 16 → ⊥) → Past
  unfolding resolve_number resolve_questions held_outcome
  past i j k =
      let a = passed _ _ i in
      let b = passed _ _ (λ e. j (a.1 ∙ e)) in
      let c = passed _ _ (λ e. k (a.1 ∙ b.1 ∙ e)) in
      record {
        sound = a.0;
        given = not-false (is_given (layers_in list)) b.0;
        within = leb-false (length (among (held buffer used))) place c.0;
        rest = a.1 ∙ b.1 ∙ c.1;
      }

  asked : Past → Asked buffer used list place
  unfolding is_broken is_given among well_formed
  asked p = by_both (held buffer used) refl (layers_in list) refl
    where
      by_both : (o : Option (List Image)) → held buffer used ≡ o → (q : Option (List LayerDigest)) → layers_in list ≡ q → Asked buffer used list place
      by_both None e q f = false_true (sym p.sound ∙ ap (is_broken (length buffer)) e)
      by_both (Some xs) e None f = false_true (sym (ap is_given f) ∙ p.given)
      by_both (Some xs) e (Some ds) f =
          record {
            images = xs;
            holds = e;
            well = ap not p.sound;
            within = subst (λ (ys : List Image). place < length ys) (ap among e) p.within;
            present = ds;
            reads = f;
          }

  resolved_told : number ≡ 0 → Resolved buffer used list place space
  unfolding resolve_value resolve_bytes value_after bytes_after output_of
  resolved_told z = by_outcome (held_outcome buffer used list place) refl
    where
      p : Past
      p = past (λ e. omega arith) (λ e. omega arith) (λ e. omega arith)

      a : Asked buffer used list place
      a = asked p

      its_rest : (o : Outcome) → held_outcome buffer used list place ≡ o → lowest (layer_questions o space) ≡ 0
      its_rest o q = ap (λ (x : Outcome). lowest (layer_questions x space)) (sym q) ∙ sym p.rest ∙ z

      room : (ds : List LayerDigest) → lowest (layer_questions (resolved ds) space) ≡ 0 → Dec (length (list_of ds) ≤ space) → length (list_of ds) ≤ space
      room ds e (yes h) = h
      room ds e (no h) = absurd (omega (arith, no_space space ds (omega arith)))

      by_outcome : (o : Outcome) → held_outcome buffer used list place ≡ o → Resolved buffer used list place space
      by_outcome (fails k f) q = absurd (omega (arith, failure_bounds f, fails_number space k f, its_rest (fails k f) q))
      by_outcome (resolved ds) q =
          let m = (resolved_exactly a.images (asked_sound a).names a.present place ds).0 (sym (its_outcome a) ∙ q) in
          record {
            asked = a;
            digests = ds;
            meet = m;
            value = ap₂ value_after z q;
            fits = room ds (its_rest (resolved ds) q) (dec_le (length (list_of ds)) space);
            written = list_read_back ds (met_sized a m);
            bytes = λ out l.
                ap₂ (λ (k : ℕ) (o : Outcome). bytes_after (resolve_number buffer used list place k) o out) l q
                ∙ ap (λ (k : ℕ). bytes_after k (resolved ds) out) z;
          }

  unresolved_told : (f : Failure) → number ≡ failure_number f → Unresolved buffer used list place space f
  unfolding resolve_value value_after
  unresolved_told f z = by_outcome (held_outcome buffer used list place) refl
    where
      p : Past
      p = past (λ e. omega (arith, failure_bounds f)) (λ e. omega (arith, failure_bounds f)) (λ e. omega (arith, failure_bounds f))

      a : Asked buffer used list place
      a = asked p

      its_rest : (o : Outcome) → held_outcome buffer used list place ≡ o → lowest (layer_questions o space) ≡ failure_number f
      its_rest o q = ap (λ (x : Outcome). lowest (layer_questions x space)) (sym q) ∙ sym p.rest ∙ z

      found : (ds : List LayerDigest) → lowest (layer_questions (resolved ds) space) ≡ failure_number f → Dec (length (list_of ds) ≤ space) → ⊥
      found ds e (yes h) = omega (arith, failure_bounds f, enough_space space ds h)
      found ds e (no h) = omega (arith, failure_bounds f, no_space space ds (omega arith))

      by_outcome : (o : Outcome) → held_outcome buffer used list place ≡ o → Unresolved buffer used list place space f
      by_outcome (resolved ds) q = absurd (found ds (its_rest (resolved ds) q) (dec_le (length (list_of ds)) space))
      by_outcome (fails k g) q =
          let e : failure_number g ≡ failure_number f = sym (fails_number space k g) ∙ its_rest (fails k g) q in
          let m = (fails_exactly a.images (asked_sound a).names a.present place k g).0 (sym (its_outcome a) ∙ q) in
          let v : resolve_value buffer used list place space ≡ k =
          ap (value_after number) q ∙ rw (eq-eqb number (failure_number g) (z ∙ sym e), value_after) in
          record {
            asked = a;
            fails =
                subst (λ (i : ℕ). FirstFails a.images a.present (layers_at a.images place) i f) (sym v)
                (subst (FirstFails a.images a.present (layers_at a.images place) k) (one_failure g f e) m);
          }

  -- where an image and a layer list are asked of, the layers of the image decide, and then the space
  layers_decide : (a : Asked buffer used list place) (o : Outcome) → outcome_in a.images place a.present ≡ o → number ≡ lowest (layer_questions o space)
  unfolding resolve_number resolve_questions held_outcome well_formed is_given among
  layers_decide a o q =
      asked_next _ _ (not-true _ a.well)
      ∙ asked_next _ _ (ap (λ p. not (is_given p)) a.reads)
      ∙ asked_next _ _ (ap (λ x. leb (length (among x)) place) a.holds ∙ lt-leb (length a.images) place a.within)
      ∙ ap (λ (x : Outcome). lowest (layer_questions x space)) (its_outcome a ∙ q)

  -- The number 0 is given exactly if the paths from the image's layers all meet digests of the layer list, and the list of these fits the output
  -- buffer: it is written there, in the order of the layers.
  pub zero_exactly : (resolve_number buffer used list place space ≡ 0) ↔ Resolved buffer used list place space
  zero_exactly = (resolved_told, zero)
    where
      zero : Resolved buffer used list place space → number ≡ 0
      zero w =
          let a = w.asked in
          layers_decide a (resolved w.digests) ((resolved_exactly a.images (asked_sound a).names a.present place w.digests).1 w.meet)
          ∙ enough_space space w.digests w.fits

  -- 17, 18 or 19 is given exactly if a layer of the image fails and the first that does fails for that reason; its index is the value.
  pub failure_exactly : (f : Failure) → (resolve_number buffer used list place space ≡ failure_number f) ↔ Unresolved buffer used list place space f
  failure_exactly f = (unresolved_told f, failure)
    where
      failure : Unresolved buffer used list place space f → number ≡ failure_number f
      failure w =
          let a = w.asked in
          let k = resolve_value buffer used list place space in
          layers_decide a (fails k f) ((fails_exactly a.images (asked_sound a).names a.present place k f).1 w.fails) ∙ fails_number space k f

-- A refusal changes no byte of the output buffer.
pub refused_unchanged :
    (buffer : List ℕ) (used : ℕ) (list : List ℕ) (place : ℕ) (out : List ℕ) → (resolve_number buffer used list place (length out) ≡ 0 → ⊥)
    → resolve_bytes buffer used list place out ≡ out
unfolding resolve_bytes
refused_unchanged buffer used list place out h = refused_bytes _ _ out h
