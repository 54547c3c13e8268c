-- When a rule matches an image (document 01, "References, names and rules"): HASH is the algorithm of its ID, SIGNER is `*` or equal, and
-- MANIFEST is `*`, equal to the manifest digest, or one of its `self` aliases. Digests are compared by their bytes.
use Rattle.std.specs.Prelude.{ℕ, List, [], ◌∷◌, Bool, true, false, ◌&&◌, ◌||◌, eqb}
use Rattle.laws.specs.Order.{same}
use Rattle.reference_digests.specs.Algorithms.{byte_of}
use Rattle.reference.specs.References.{Signer, any_signer, signer, Manifest, any_manifest, manifest, self_alias, Rule, accepts, no_rule, Id, image_id}
use Rattle.reference.specs.References.{no_id}

-- the name is one of these, with all its bytes
unfoldable pub is_one_of : List ℕ → List (List ℕ) → Bool
is_one_of c [] = false
is_one_of c (n ∷ ns) = same c n || is_one_of c ns

unfoldable pub signer_matches : Signer → List ℕ → Bool
signer_matches any_signer s = true
signer_matches (signer d) s = same d s

unfoldable pub manifest_matches : Manifest → List ℕ → List (List ℕ) → Bool
manifest_matches any_manifest m names = true
manifest_matches (manifest d) m names = same d m
manifest_matches (self_alias n) m names = is_one_of n names

-- the image has that ID and these `self` aliases
unfoldable pub matches : Rule → Id → List (List ℕ) → Bool
matches no_rule i names = false
matches (accepts a s m) no_id names = false
matches (accepts a s m) (image_id b t n) names = eqb (byte_of a) (byte_of b) && (signer_matches s t && manifest_matches m n names)
