-- `store::load_image` meets its contract. Assumes nothing.
use mathlib.Core.Path.{◌≡◌, refl, sym, ◌∙◌}
use native.Mathlib.Omega.{arith}
use lib.ListN.{length}
use lib.Seq.{length-take-le}
use Rattle.text.specs.Question.{lowest}
use Rattle.manifest.proofs.Opening.{opened_short}
use Rattle.store_record.specs.Image.{Image}
use Rattle.store_open.specs.Held.{held}
use Rattle.store.specs.Load.{store_questions}
use Rattle.store_append.specs.Append.{image_with}
use Rattle.store.proofs.Steps.{refused_loads, loads_as, past_number, number_within, fits}
use borrow.Author.Rules.{rules}
use Rattle.store.proofs.load_image.Statement.{statement}
use Rattle.store.proofs.load_image.Tie as tie

abbrev begin : tie.After-number_in-number → tie.Start
begin c = c.before.before.before.before.before.before.before.before.before.before

abbrev its_image : tie.Start → Image
its_image a = image_with a.args.a a.args.signer.now a.args.digest.now a.args.text.now

-- the number that was found is that of questions 11 to 14
asked : (c : tie.After-number_in-number) → let a = begin c in
    c.number_in-number.result ≡ lowest (store_questions (length a.args.store.now) (held a.args.store.now a.args.used) (its_image a))
asked c = c.number_in-number.ensures ∙ number_within _ (begin c).args.store.now (begin c).args.used c.if-store-used.false _ refl

returns-then-store-used : tie.Need-returns-then-store-used
returns-then-store-used c =
    let a = c.args in
    let r = c.refused.ensures in
    refused_loads (sym (past_number _ a.store.now a.used c.if-store-used.true)) (λ z. omega arith) r.0 r.1

slice_bounds-number_in-end-2 : tie.Need-slice_bounds-number_in-end-2
slice_bounds-number_in-end-2 c = sym (length-take-le _ _ c.if-store-used.false)

returns-then-number-ne0 : tie.Need-returns-then-number-ne0
returns-then-number-ne0 c =
    let t = c.before.before.before.before in
    let r = c.refused-then-number-ne0.ensures in
    refused_loads (asked t.before.before.before.before.before) t.if-number-ne0.true r.0 r.1

append-requires : tie.Need-append-requires
append-requires c κs =
    let k = c.before.before.before.before.before.before in
    let a = begin k in
    record {
      short = opened_short _ _ a.requires.0.opens;
      digests = a.requires.1;
      fits = fits _ a.args.store.now a.args.used k.if-store-used.false
          (λ j. (k.slice_known-1.given j).fits) (sym (asked k) ∙ c.if-number-ne0.false);
    }

returns : tie.Need-returns
returns c =
    let e = c.before.before.before.before in
    loads_as (sym e.if-number-ne0.false ∙ asked e.before.before.before.before.before) c.append.ensures

pub load_image_spec : {M : Type 1} → statement M
load_image_spec =
    tie.close (tie.spec (λ c κs. search rules) (λ c. search rules) returns-then-store-used (λ c. search rules) (λ c. search rules)
    slice_bounds-number_in-end-2 (λ c κs. search rules) (λ c κs. search rules) (λ c. search rules) (λ c. search rules) (λ c. search rules)
    returns-then-number-ne0 append-requires (λ c. search rules) (λ c. search rules) (λ c. search rules) returns)
