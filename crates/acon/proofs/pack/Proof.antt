use mathlib.Core.Path.{refl}
use Rattle.acon.specs.Packed.{packed}
use borrow.Author.Rules.{rules}
use Rattle.acon.proofs.pack.Statement.{statement}
use Rattle.acon.proofs.pack.Tie as tie

returns : tie.Need-returns
unfolding packed
returns c = refl

pub pack_spec : {M : Type 1} → statement M
pack_spec =
    tie.close (tie.spec (λ c. search rules) (λ c. search rules) (λ c. search rules) (λ c. search rules) returns)
