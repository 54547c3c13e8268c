-- The alias that a rule asks for (document 01, "References, names and rules": a rule's MANIFEST may be one of an image's `self` aliases).
use Rattle.std.specs.Prelude.{ℕ, List, Bool, false}
use Rattle.laws.specs.Order.{same}
use Rattle.reference.specs.References.{Rule, accepts, no_rule, any_manifest, manifest, self_alias}

-- the rule asks for the alias n
unfoldable pub asks_for : Rule → List ℕ → Bool
asks_for no_rule n = false
asks_for (accepts a s any_manifest) n = false
asks_for (accepts a s (manifest d)) n = false
asks_for (accepts a s (self_alias m)) n = same m n
