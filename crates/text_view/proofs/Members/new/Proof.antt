-- `text_view::Members::new` meets its contract. Assumes nothing.
use mathlib.Core.Path.{refl}
use native.Mathlib.Omega.{arith}
use Rattle.text_view.proofs.Values.{within}
use Rattle.text_view.proofs.Cursors.{object_ends, object_members}
use Rattle.text_view.proofs.Members.new.Statement.{statement}
use Rattle.text_view.proofs.Members.new.Tie as tie

returns : tie.Need-returns
returns c = let o = c.requires in (λ x v. (object_members _ _ _ x v).1, (refl, object_ends _ _ _ o.fields o.here))

pub new_spec : {M : Type 1} → statement M
new_spec =
    tie.close (tie.spec (λ c. omega (arith, within _ _ _ _ c.requires.here)) (λ c. omega (arith, (object_members _ _ _ _ c.requires.here).0)) returns)
