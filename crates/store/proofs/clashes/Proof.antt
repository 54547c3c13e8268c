-- `store::clashes` meets its contract: where no image is of the signer none clashes.
use mathlib.Core.Path.{sym, ◌∙◌}
use native.Mathlib.Omega.{arith}
use borrow.Author.Tests.{not-true}
use Rattle.manifest.proofs.Opening.{opened_short}
use Rattle.store_conflict.proofs.Walking.{clash_none}
use Rattle.store.proofs.Steps.{clash_space}
use borrow.Author.Rules.{rules}
use Rattle.store.proofs.clashes.Statement.{statement}
use Rattle.store.proofs.clashes.Tie as tie

abbrev start : tie.After-has_signer → tie.Start
start k = k.before.before.before.before.before.before

returns-then-not-has_signer : tie.Need-returns-then-not-has_signer
returns-then-not-has_signer c =
    let a = (start c.before).args in
    sym (clash_none a.b.now a.v 0 a.a a.signer.now a.text.now (sym c.has_signer.ensures ∙ not-true _ c.if-not-has_signer.true-raw))

clashes_with_any-requires : tie.Need-clashes_with_any-requires
clashes_with_any-requires c κs =
    let t = c.before.before.before.before in
    let p = (start t.before.before).requires in
    (p.0, p.1, clash_space p.2 (omega arith) (omega (arith, t.if-text-le-SHORT_BYTES.true)))

returns-then-text-le-SHORT_BYTES : tie.Need-returns-then-text-le-SHORT_BYTES
returns-then-text-le-SHORT_BYTES c = c.clashes_with_any.ensures

clashes_with_any-requires-2 : tie.Need-clashes_with_any-requires-2
clashes_with_any-requires-2 c κs =
    let p = (start c.before.before.before.before.before.before).requires in
    (p.0, p.1, clash_space p.2 (omega arith) (omega (arith, opened_short _ _ p.0)))

returns : tie.Need-returns
returns c = c.clashes_with_any-2.ensures

pub clashes_spec : {M : Type 1} → statement M
clashes_spec =
    tie.close (tie.spec (λ c κs. search rules) returns-then-not-has_signer (λ c. search rules) (λ c. search rules) clashes_with_any-requires
    (λ c. search rules) (λ c. search rules) returns-then-text-le-SHORT_BYTES (λ c. search rules) (λ c. search rules) clashes_with_any-requires-2
    (λ c. search rules) (λ c. search rules) returns)
