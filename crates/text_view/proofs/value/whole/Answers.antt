-- A minus sign, and then the digits as `int_part` reads them.
use Rattle.std.proofs.Common.{arith, ◌≡◌, ◌+◌, ℕ}
use mathlib.Core.Path.{ap, ◌∙◌}
use Rattle.text_json.specs.Content.{decimal}
use Rattle.text_view.proofs.Values.{within}
use Rattle.text_view.proofs.Numbers.{number_parts, int_value, after_sign, always_digits}
use Rattle.text_view.proofs.value.whole.Goals as goal

pub bounds-s-at : goal.bounds-s-at
bounds-s-at c = let p = c.requires in within _ _ p.depth _ p.here

pub overflow_add-at : goal.overflow_add-at
overflow_add-at c = let p = c.requires in omega (arith, after_sign _ _ p.depth _ p.here _ c.sign_size.ensures)

pub int_part-requires : goal.int_part-requires
int_part-requires c = let p = c.requires in after_sign _ _ p.depth _ p.here _ c.sign_size.ensures

pub overflow_cast-result : goal.overflow_cast-result
overflow_cast-result c =
    let a = c.args in
    let p = c.requires in
    let k = number_parts a.s.now a.at p.depth p.negative p.digits p.here in
    let f = int_value _ _ _ (ap (λ (n : ℕ). a.at + n) c.sign_size.ensures) _ _ k.1.1 _ p.small c.in-Ok.ensures in
    let h = p.small in
    omega arith

pub returns-in-Ok : goal.returns-in-Ok
returns-in-Ok c =
    let a = c.args in
    let p = c.requires in
    let k = number_parts a.s.now a.at p.depth p.negative p.digits p.here in
    let f = int_value _ _ _ (ap (λ (n : ℕ). a.at + n) c.sign_size.ensures) _ _ k.1.1 _ p.small c.in-Ok.ensures in
    λ d n ds v. let l = number_parts a.s.now a.at d n ds v in
    let e : p.digits ≡ ds = cc (k.1.1, l.1.1) in
    (l.0, f ∙ ap decimal e)

pub returns-in-Err : goal.returns-in-Err
returns-in-Err c = λ x n ds v. always_digits _ _ x n ds v _ c.sign_size.ensures _ c.in-Err.ensures
