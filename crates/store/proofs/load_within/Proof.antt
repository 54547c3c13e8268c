-- `store::load_within` meets its contract: questions 1 to 6 are asked of the manifest, and the others of its form. Assumes nothing.
use Prim.Native.Nat.{ℕ, ◌≤◌}
use mathlib.Core.Path.{◌≡◌, refl, sym, subst, ◌∙◌}
use mathlib.Core.List.{List}
use mathlib.Core.Bool.{true}
use native.Mathlib.Omega.{arith}
use lib.ListN.{length, take}
use lib.Seq.{length-take-le}
use Rattle.text.specs.Answer.{form, is_canonical}
use Rattle.text.specs.Question.{text_number}
use Rattle.text.proofs.Forms.{form_canonical}
use Rattle.text.proofs.Outcome.{zero_taken, length_within}
use Rattle.text.proofs.Places.{done_place}
use Rattle.store.proofs.Steps.{refused_loads, load_answers}
use Rattle.store.proofs.Forms.{form_there, refused_text, form_loads}
use borrow.Author.Rules.{rules}
use Rattle.store.proofs.load_within.Statement.{statement}
use Rattle.store.proofs.load_within.Tie as tie

abbrev start : tie.After-canonical_with-written → tie.Start
start k = k.before.before.before.before.before.before.before.before.before.before

abbrev manifest : tie.After-canonical_with-written → List ℕ
manifest k = (start k).args.manifest.now

canonical_with-written-requires : tie.Need-canonical_with-written-requires
canonical_with-written-requires c κs =
    let n = c.requires.1 in
    record { enough = omega (arith, n.names_size); sorting = omega (arith, n.names_size, n.spare_size) }

-- where the number of the text is known
abbrev told : tie.After-slice_known-7-1 → tie.After-canonical_with-written
told c = c.before.before.before.before.before.before

returns-then-number-ne0 : tie.Need-returns-then-number-ne0
returns-then-number-ne0 c =
    let t = c.before.before.before.before in
    let k = told t.before in
    let a = (start k).args in
    let w = k.canonical_with-written.ensures.0 in
    let h = t.if-number-ne0.true in
    let q = refused_text a.id.now a.manifest.now a.store.now a.used (length a.form.now) (start k).requires.0.fits (λ z. h (w ∙ z)) in
    let r = c.refused_at.ensures in
    let l = load_answers _ _ _ _ (w ∙ q) (refused_loads refl h (r.0.0, r.0.1) r.1) in
    record { number = l.0; new_used = l.1.0; bytes = l.1.1; place = r.0.2 ∙ k.canonical_with-written.ensures.1.1.1 }

-- what was written is the form
abbrev text : tie.After-canonical_with-written → List ℕ
text k = take k.canonical_with-written.result.value k.canonical_with-written.new.out

is_form : (k : tie.After-canonical_with-written) → k.canonical_with-written.result.number ≡ 0 → text k ≡ form (manifest k)
is_form k z = let e = k.canonical_with-written.ensures in form_there (manifest k) _ _ _ _ e.1.1.0 e.1.0 e.0 z

its_text : (k : tie.After-canonical_with-written) → k.canonical_with-written.result.number ≡ 0 → text_number (manifest k) ≡ 0
its_text k z = zero_taken (manifest k) _ (sym k.canonical_with-written.ensures.0 ∙ z)

fits : (k : tie.After-canonical_with-written) → k.canonical_with-written.result.value ≤ length (start k).args.form.now
fits k = omega (arith, k.canonical_with-written.ensures.1.0, length_within (manifest k) (length (start k).args.form.now))

slice_bounds-load_form-end : tie.Need-slice_bounds-load_form-end
slice_bounds-load_form-end c = let k = told c.before in omega (arith, fits k, k.canonical_with-written.auto.out)

slice_bounds-load_form-end-2 : tie.Need-slice_bounds-load_form-end-2
slice_bounds-load_form-end-2 c = sym (length-take-le _ _ (slice_bounds-load_form-end c))

load_form-loaded-requires : tie.Need-load_form-loaded-requires
load_form-loaded-requires c κs =
    let e = c.before.before.before.before in
    let k = told e in
    let z = c.if-number-ne0.false in
    let n = k.canonical_with-written.auto in
    let l = (start k).requires.1 in (
      subst (λ (t : List ℕ). is_canonical t ≡ true) (sym (is_form k z)) (form_canonical (manifest k) (its_text k z)),
      record { names_size = omega (arith, n.keys, l.names_size); spare_size = omega (arith, n.spare, l.spare_size) },
    )

returns : tie.Need-returns
returns c =
    let f = c.before.before.before.before.before.before.before in
    let e = f.before.before.before.before.before in
    let k = told e in
    let a = (start k).args in
    let z = c.if-number-ne0.false in
    let l = load_answers _ _ _ _ refl
    (form_loads a.id.now (manifest k) a.store.now a.used (its_text k z) (is_form k z) f.load_form-loaded.ensures) in
    let w = c.without_place.ensures in
    record {
      number = w.0 ∙ l.0;
      new_used = w.1 ∙ l.1.0;
      bytes = l.1.1;
      place = w.2 ∙ sym (done_place (manifest k) (length a.form.now) (sym k.canonical_with-written.ensures.0 ∙ z));
    }

pub load_within_spec : {M : Type 1} → statement M
load_within_spec =
    tie.close (tie.spec canonical_with-written-requires (λ c κs. search rules) (λ c. search rules) (λ c. search rules) (λ c. search rules)
    (λ c. search rules) returns-then-number-ne0 slice_bounds-load_form-end slice_bounds-load_form-end-2 load_form-loaded-requires
    (λ c κs. search rules) (λ c. search rules) (λ c. search rules) (λ c. search rules) (λ c. search rules) returns)
