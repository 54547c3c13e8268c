-- `text_canonical::digits_end` meets its contract: the sign, and then the digits as `int_part` reads them. Assumes nothing.
use borrow.Author.Rules.{rules}
use Prim.Native.Nat.{ℕ, ◌+◌}
use mathlib.Core.Path.{ap, subst}
use native.Mathlib.Omega.{arith}
use Rattle.text_numbers.specs.Parts.{Ints}
use Rattle.text_view.proofs.Values.{within}
use Rattle.text_view.proofs.Numbers.{after_sign, always_digits}
use Rattle.text_canonical.proofs.Scalars.{digits_end}
use Rattle.text_canonical.proofs.digits_end.Statement.{statement}
use Rattle.text_canonical.proofs.digits_end.Tie as tie

bounds-s-at : tie.Need-bounds-s-at
bounds-s-at c = let p = c.requires in within _ _ p.depth _ p.here

overflow_add-first : tie.Need-overflow_add-first
overflow_add-first c =
    let p = c.requires in
    omega (arith, after_sign _ _ p.depth _ p.here _ c.sign_size.ensures)

int_part-requires : tie.Need-int_part-requires
int_part-requires c κs =
    let p = c.requires in
    after_sign _ _ p.depth _ p.here _ c.sign_size.ensures

returns-in-Ok : tie.Need-returns-in-Ok
returns-in-Ok c =
    let d = c.before in
    let b = d.before.before.before.before in
    let p = b.requires in
    let f = ap (λ (n : ℕ). b.args.at + n) d.sign_size.ensures in
    digits_end _ _ _ _ _ (within _ _ p.depth _ p.here) f
    (subst (Ints b.args.s.now (b.args.at + d.sign_size.result)) c.in-Ok.is d.int_part.ensures)

returns-in-Err : tie.Need-returns-in-Err
returns-in-Err c =
    let d = c.before in
    let b = d.before.before.before.before in
    let p = b.requires in
    always_digits _ _ p.depth p.negative p.digits p.here _ d.sign_size.ensures _
    (subst (Ints b.args.s.now (b.args.at + d.sign_size.result)) c.in-Err.is d.int_part.ensures)

pub digits_end_spec : {M : Type 1} → statement M
digits_end_spec =
    tie.close (tie.spec bounds-s-at (λ c κs. search rules) overflow_add-first int_part-requires (λ c. search rules) (λ c. search rules) returns-in-Ok
    returns-in-Err)
