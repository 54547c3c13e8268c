-- `store_conflict::conflicts_later` meets its contract: where no later image is of the signer none has a layer key of it.
use Prim.Native.Nat.{◌+◌}
use mathlib.Core.Path.{sym, ◌∙◌}
use native.Mathlib.Omega.{arith}
use borrow.Author.Tests.{not-true}
use lib.ListN.{get_or}
use Rattle.manifest.proofs.Opening.{opened_short}
use Rattle.store_record.specs.Reading.{between, no_record, RecordIn}
use Rattle.store_names.proofs.Opened.{opened_at}
use Rattle.store_conflict.proofs.Lent.{space_less}
use Rattle.store_conflict.proofs.Walking.{layers_none, layers_held}
use borrow.Author.Rules.{rules}
use Rattle.store_conflict.proofs.conflicts_later.Statement.{statement}
use Rattle.store_conflict.proofs.conflicts_later.Tie as tie

abbrev start : tie.After-r-1 → tie.Start
start c = c.before.before.before.before.before.before

-- where a later image is of the signer
abbrev read : tie.Else-not-has_signer → tie.After-r-1
read c = c.before.before.before

-- the record lies inside the store
inside : (a : tie.Start) → RecordIn a.args.b.now (get_or a.args.v.records a.args.i.0 no_record)
inside a = a.requires.0.fills.each a.args.i.0 a.requires.1

slice_bounds-has_signer-count : tie.Need-slice_bounds-has_signer-count
slice_bounds-has_signer-count c = let r = inside (start c) in omega (arith, r.signer)

slice_bounds-has_signer-start : tie.Need-slice_bounds-has_signer-start
slice_bounds-has_signer-start c = let r = inside (start c) in omega (arith, r.signer)

slice_bounds-has_signer-end : tie.Need-slice_bounds-has_signer-end
slice_bounds-has_signer-end c = let r = inside (start c) in omega (arith, r.manifest, r.text, r.within)

returns-then-not-has_signer : tie.Need-returns-then-not-has_signer
unfolding between
returns-then-not-has_signer c =
    let a = (start c.before.before.before).args in
    sym (layers_held a.b.now a.v (a.i.0 + 1) _
    ∙ layers_none a.b.now a.v (a.i.0 + 1) _ _ _ (sym c.has_signer.ensures ∙ not-true _ c.if-not-has_signer.true-raw))

slice_bounds-s-count : tie.Need-slice_bounds-s-count
slice_bounds-s-count c = let r = inside (start (read c.before)) in omega (arith, r.text)

slice_bounds-s-start : tie.Need-slice_bounds-s-start
slice_bounds-s-start c = let r = inside (start (read c.before)) in omega (arith, r.text)

slice_bounds-s-end : tie.Need-slice_bounds-s-end
slice_bounds-s-end c = let r = inside (start (read c.before)) in omega (arith, r.within)

slice_bounds-signer-count : tie.Need-slice_bounds-signer-count
slice_bounds-signer-count c = let r = inside (start (read c.before.before)) in omega (arith, r.signer)

slice_bounds-signer-start : tie.Need-slice_bounds-signer-start
slice_bounds-signer-start c = let r = inside (start (read c.before.before)) in omega (arith, r.signer)

slice_bounds-signer-end : tie.Need-slice_bounds-signer-end
slice_bounds-signer-end c = let r = inside (start (read c.before.before)) in omega (arith, r.manifest, r.text, r.within)

any_clashes_with-requires : tie.Need-any_clashes_with-requires
unfolding between
any_clashes_with-requires c κs =
    let p = (start (read c.before.before.before.before.before.before.before)).requires in
    let o = opened_at _ _ _ p.0 _ p.1 _ in
    (o, p.0, space_less (opened_short _ _ o) p.2)

returns : tie.Need-returns
unfolding between
returns c =
    let f = c.before.before.before.before.before.before.before.before in
    let a = (start (read f.before.before.before.before.before.before.before.before)).args in
    f.any_clashes_with.ensures ∙ sym (layers_held a.b.now a.v (a.i.0 + 1) _)

pub conflicts_later_spec : {M : Type 1} → statement M
conflicts_later_spec =
    tie.close (tie.spec (λ c. search rules) (λ c. search rules) (λ c. search rules) slice_bounds-has_signer-count slice_bounds-has_signer-start
    slice_bounds-has_signer-end (λ c κs. search rules) returns-then-not-has_signer (λ c. search rules) (λ c. search rules) slice_bounds-s-count
    slice_bounds-s-start slice_bounds-s-end slice_bounds-signer-count slice_bounds-signer-start slice_bounds-signer-end any_clashes_with-requires
    (λ c. search rules) (λ c. search rules) (λ c. search rules) (λ c. search rules) returns)
