-- `text_view::Elements::new` meets its contract. Assumes nothing.
use mathlib.Core.Path.{refl}
use native.Mathlib.Omega.{arith}
use Rattle.text_view.proofs.Values.{within}
use Rattle.text_view.proofs.Cursors.{array_ends, array_elements}
use Rattle.text_view.proofs.Elements.new.Statement.{statement}
use Rattle.text_view.proofs.Elements.new.Tie as tie

returns : tie.Need-returns
returns c = let o = c.requires in (λ x v. (array_elements _ _ _ x v).1, (refl, array_ends _ _ _ o.values o.here))

pub new_spec : {M : Type 1} → statement M
new_spec =
    tie.close (tie.spec (λ c. omega (arith, within _ _ _ _ c.requires.here)) (λ c. omega (arith, (array_elements _ _ _ _ c.requires.here).0)) returns)
