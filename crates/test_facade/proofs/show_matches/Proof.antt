-- `test_facade::show_matches` meets the needs of what it calls: the names that are looked up in are the image's own. Assumes nothing.
use Prim.Native.Nat.{◌-◌, ◌≤◌}
use mathlib.Core.Path.{sym, subst}
use native.Mathlib.Nat.{zero-add}
use native.Mathlib.Omega.{arith}
use borrow.Author.Rules.{rules}
use lib.ListN.{length}
use lib.Seq.{length-take-le, take_all}
use Rattle.manifest_index.specs.Index.{NumberOf}
use Rattle.manifest_index.proofs.Indexing.{names_number}
use Rattle.test_facade.proofs.show_matches.Statement.{statement}
use Rattle.test_facade.proofs.show_matches.Tie as tie

place_self-n-requires : tie.Need-place_self-n-requires
place_self-n-requires c κs =
    let a = c.before.before.before.before.before.before in
    let t = a.args.t.now in
    (omega arith, omega arith, rw (take_all (length t - 0) t (omega arith)) a.requires.1, omega arith, omega arith)

index_names-requires : tie.Need-index_names-requires
index_names-requires c κs =
    let p = c.place_self-n in
    let e = p.ensures in
    let room : p.result ≤ length p.new.at = omega (arith, e.0, e.1) in (
      λ k l. subst (NumberOf _ _) (zero-add k) (names_number _ _ 0 p.result _ e.3 (omega arith) k l),
      e.0,
      e.0,
    )

slice_bounds-show_rules-end-2 : tie.Need-slice_bounds-show_rules-end-2
slice_bounds-show_rules-end-2 c =
    let k = c.index_names in
    let p = c.place_self-n in
    sym (length-take-le _ _ (omega (arith, p.ensures.0, k.ensures.1)))

pub show_matches_spec : {M : Type 1} → statement M
show_matches_spec =
    tie.close (tie.spec (λ c. search rules) (λ c. search rules) place_self-n-requires (λ c. search rules) (λ c. search rules) index_names-requires
    (λ c. search rules) (λ c. search rules) slice_bounds-show_rules-end-2 (λ c κs. search rules) (λ c. search rules))
