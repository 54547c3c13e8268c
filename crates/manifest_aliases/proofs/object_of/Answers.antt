-- What was read is an alias, and its name is looked up. Assumes nothing.
use Prim.Native.Nat.{ℕ}
use mathlib.Core.List.{List}
use mathlib.Core.Path.{subst}
use Rattle.manifest_aliases.specs.Found.{FindsObject}
use Rattle.manifest_aliases.proofs.Objects.{no_digest, alias_inside, alias_name}
use Rattle.manifest_aliases.proofs.object_of.Goals as goal

pub object_named-requires : goal.object_named-requires
object_named-requires c = (c.requires.0, alias_inside _ _ _ _ _ _ _ _ c.in-Alias.is c.requires.1.denotes)

pub returns-in-Digest : goal.returns-in-Digest
returns-in-Digest c = λ a d n h. no_digest _ a d n _ _ _ c.in-Digest.is h

pub returns-in-Alias : goal.returns-in-Alias
returns-in-Alias c = λ a d n h.
    subst (λ (m : List ℕ). FindsObject c.args.s.now m c.object_named.result) (alias_name _ a d n _ _ _ _ c.in-Alias.is h) c.object_named.ensures
