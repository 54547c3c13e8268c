-- `text_scan::root` meets its contract. Assumes nothing.
use borrow.Author.Rules.{rules}
use native.Mathlib.Omega.{arith}
use Rattle.text_scan.proofs.Values.{is_an_object}
use Rattle.text_scan.proofs.Keys.{object_keys, no_object}
use Rattle.text_scan.proofs.root.Statement.{statement}
use Rattle.text_scan.proofs.root.Tie as tie

object-requires : tie.Need-object-requires
object-requires c κs =
    let b = c.requires in
    let w = (c.stands.ensures.0 c.if-stands.true).0 in (
      record { within = omega arith; short = b.short; enough = omega (arith, b.enough); sorting = b.sorting },
      omega (arith, b.enough),
    )

returns-then-stands : tie.Need-returns-then-stands
returns-then-stands c =
    let a = c.args in
    let o = c.object in
    let h = c.stands.ensures.0
    c.if-stands.true in (
      is_an_object a.s.now a.at 8 o.result h.0 (omega arith) h.1 o.ensures.0,
      object_keys a.s.now a.at 8 _ o.result h.0 (omega arith) h.1 o.ensures.1,
    )

returns : tie.Need-returns
returns c =
    let a = c.args in
    let v = c.value in (
      v.ensures,
      no_object a.s.now a.at 8 _ v.result
          (c.stands.ensures.1
          c.if-stands.false),
    )

pub root_spec : {M : Type 1} → statement M
root_spec =
    tie.close (tie.spec (λ c κs. search rules) (λ c. search rules) object-requires (λ c. search rules) (λ c. search rules) returns-then-stands
    (λ c κs. search rules) (λ c. search rules) (λ c. search rules) returns)
