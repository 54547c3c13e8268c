-- `store_clash::any_clash` meets its contract: the names that the images have for themselves are asked first, and then those of their layers.
use Prim.Native.Nat.{◌≤◌}
use mathlib.Core.Path.{◌≡◌, refl, sym, ap, ◌∙◌}
use mathlib.Core.Bool.{Bool, ◌||◌}
use native.Mathlib.Omega.{arith}
use borrow.Author.Rules.{rules}
use lib.ListN.{length}
use Rattle.laws.specs.Any.{any_pair}
use Rattle.store_record.specs.Reading.{images_in}
use Rattle.store_record.proofs.Walks.{records_size, pair_few}
use Rattle.store_keys.specs.Clash.{clash, any_clash}
use Rattle.store_keys.specs.Signed.{layers_clash}
use Rattle.store_conflict.proofs.Lent.{space_kept}
use Rattle.store_conflict.proofs.Walking.{any_clash_is}
use Rattle.store_clash.proofs.any_clash.Statement.{statement}
use Rattle.store_clash.proofs.any_clash.Tie as tie

fits : (a : tie.Start) → a.args.v.count ≤ length a.args.v.records
fits a = omega (arith, records_size a.args.v a.well_formed.1.0, a.requires.0.fills.few)

-- where the names of the images are compared
module _ (k : tie.After-any_shared) where
  abbrev start : tie.Start
  start = k.before.before.before.before.before.before.before.before.before.before.before.before

  parts : {t : Bool} → k.any_shared.result ≡ t → let a = start.args in
      any_clash (images_in a.b.now a.v) ≡ (t || any_pair layers_clash (images_in a.b.now a.v))
  parts e =
      let a = start.args in
      any_clash_is a.b.now a.v ∙ ap (λ (x : Bool). x || any_pair layers_clash (images_in a.b.now a.v)) (sym k.any_shared.ensures.0 ∙ e)

returns-then-v-lt2 : tie.Need-returns-then-v-lt2
unfolding any_clash
returns-then-v-lt2 c =
    let a = c.before.before.before.before.before.before.before.before in
    sym (pair_few a.args.b.now a.args.v (fits a) clash c.if-v-lt2.true)

any_shared-requires : tie.Need-any_shared-requires
any_shared-requires c κs =
    let p = c.requires in
    let n = p.2.names in
    (p.0, p.1, n.space, omega (arith, n.space, n.sorting))

returns-then-any_shared : tie.Need-returns-then-any_shared
returns-then-any_shared c = sym (parts c.before.before.before.before.before.before.before c.if-any_shared.true)

any_conflict-requires : tie.Need-any_conflict-requires
any_conflict-requires c κs =
    let k = c.before.before.before.before.before.before.before.before.before.before.before in
    let p = (start k).requires in
    let n = k.any_shared.ensures.1 in
    (p.0, space_kept p.2 _ _ _ _ n.1 n.2 refl refl)

returns : tie.Need-returns
returns c =
    let d = c.before.before.before.before.before.before.before.before in
    let e = d.before.before.before.before.before in
    d.any_conflict.ensures ∙ sym (parts e.before.before.before.before.before.before.before e.if-any_shared.false)

pub any_clash_spec : {M : Type 1} → statement M
any_clash_spec =
    tie.close (tie.spec returns-then-v-lt2 any_shared-requires (λ c. search rules) (λ c. search rules) (λ c. search rules) returns-then-any_shared
    any_conflict-requires (λ c. search rules) (λ c. search rules) (λ c. search rules) (λ c. search rules) (λ c. search rules) returns)
