use mathlib.Core.Path.{sym, ◌∙◌}
use native.Mathlib.Omega.{arith}
use Rattle.text.proofs.Outcome.{canonical_own}
use Rattle.store.proofs.Steps.{refused_loads, loads_as, fault_number_is, good_number}
use Rattle.store.proofs.load_form.Goals as goal

pub returns-in-Err : goal.returns-in-Err
returns-in-Err c =
    let a = c.args in
    let n = c.number.ensures in
    let q = fault_number_is a.id.now a.text.now a.store.now a.used c.in-Err.f c.in-Err.ensures.number in
    let r = c.refused.ensures in
    refused_loads (n ∙ q.0) (λ z. q.1 (sym n ∙ z)) r.number_value r.buffer_unchanged

pub load_good-requires : goal.load_good-requires
load_good-requires c =
    let p = c.requires in
    let n = c.check_form.auto in (
      record { opens = c.in-Ok.ensures.tells.2; own = canonical_own _ p.0 },
      record { names_size = omega (arith, n.names, p.1.names_size); spare_size = omega (arith, n.spare, p.1.spare_size) },
    )

pub returns-in-Ok : goal.returns-in-Ok
returns-in-Ok c =
    let a = c.args in
    loads_as (good_number a.id.now a.text.now a.store.now a.used (sym c.in-Ok.ensures.number)) c.load_good.ensures
