-- `manifest_names::shared::shares` meets its contract: each alias is asked about by its name.
-- Assumes nothing.
use Prim.Native.Nat.{ℕ}
use mathlib.Core.Path.{◌∙◌}
use mathlib.Core.List.{List}
use Rattle.reference.specs.Matches.{is_one_of}
use Rattle.manifest_heads.specs.Contents.{share_name}
use Rattle.manifest_heads.proofs.Any.{any_name}
use Rattle.manifest_names.specs.Asked.{passes}
use Rattle.manifest_names.proofs.shared.shares.Statement.{statement}
use Rattle.manifest_names.proofs.shared.shares.Tie as tie

any-requires : tie.Need-any-requires
any-requires c κs = let o = c.requires in ((o.0.names, o.0.sorted), o.1, o.2)

returns : tie.Need-returns
unfolding passes share_name
returns c = λ cs o m f. c.any.ensures (cs, m) o f ∙ any_name (λ (n : List ℕ). is_one_of n cs) _

pub shares_spec : {M : Type 1} → statement M
shares_spec =
    tie.close (tie.spec any-requires returns)
