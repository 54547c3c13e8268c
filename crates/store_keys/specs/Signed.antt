-- The two ways in which an image of one ID clashes with another, and those in which any two images do.
use Rattle.std.specs.Prelude.{ℕ, Bool, false, ◌&&◌, List, [], ◌∷◌, eqb}
use Rattle.laws.specs.Any.{any_of}
use Rattle.laws.specs.Order.{same}
use Rattle.reference_digests.specs.Algorithms.{byte_of}
use Rattle.reference_digests.specs.declared.algorithm.Algorithm.{Algorithm}
use Rattle.reference.specs.References.{Id, image_id, no_id}
use Rattle.manifest_heads.specs.Contents.{share_name}
use Rattle.manifest.specs.Manifest.{self_names, contents}
use Rattle.manifest.specs.Names.{conflict}
use Rattle.store_record.specs.Image.{Image}
use Rattle.store_keys.specs.Keys.{image_keys, layer_keys}
use Rattle.store_keys.specs.Clash.{is_same_key, disagree}

-- the image with one ID of that algorithm and signer; the manifest's digest is in no key
abbrev pub one : Algorithm → List ℕ → List ℕ → Image
one a signer s = record { ids = image_id a signer [] ∷ []; text = s }

-- an ID of that algorithm and signer
unfoldable pub signed_by : Algorithm → List ℕ → Id → Bool
signed_by a s no_id = false
signed_by a s (image_id b t m) = eqb (byte_of a) (byte_of b) && same s t

-- an image with such an ID
unfoldable pub is_signed : Algorithm → List ℕ → Image → Bool
is_signed a signer y = any_of (signed_by a signer) y.ids

-- it has an alias of the manifest s for itself
unfoldable pub shares_with : Algorithm → List ℕ → List ℕ → Image → Bool
shares_with a signer s y = is_signed a signer y && share_name (self_names y.text) (self_names s)

-- it has an alias of a layer that the manifest s has for another object
unfoldable pub conflicts_with : Algorithm → List ℕ → List ℕ → Image → Bool
conflicts_with a signer s y = is_signed a signer y && conflict (contents y.text) (contents s)

-- the two parts of a clash: two images have one image key,
unfoldable pub names_clash : Image → Image → Bool
names_clash x y = any_of (λ k. any_of (is_same_key k) (image_keys y)) (image_keys x)

-- or one layer key for different objects
unfoldable pub layers_clash : Image → Image → Bool
layers_clash x y = any_of (λ k. any_of (disagree k) (layer_keys y)) (layer_keys x)
