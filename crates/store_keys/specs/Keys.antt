-- The keys that an image defines (document 01, "References, names and rules"): an image with ID H/S/M defines the layer key signer/H/S/ALIAS for
-- each alias in `contents`, and the image key H/S/ALIAS for each in `self`; under each of its IDs.
use Rattle.std.specs.Prelude.{ℕ, List, [], ◌∷◌, ◌++◌, map}
use Rattle.reference.specs.References.{Id, image_id, no_id, Layer}
use Rattle.reference_digests.specs.declared.algorithm.Algorithm.{Algorithm}
use Rattle.manifest.specs.Manifest.{self_names, Alias, contents}
use Rattle.store_record.specs.Image.{Image}

-- H/S/ALIAS, by its parts; a name counts with all its bytes
pub record Key : Type 0 where
  pub algorithm : Algorithm
  pub signer : List ℕ
  pub name : List ℕ

-- a layer key and its object: what stands as the key in `contents`
pub record LayerKey : Type 0 where
  pub key : Key
  pub object : Layer

-- under one ID
unfoldable pub keys_under : Id → List (List ℕ) → List Key
keys_under no_id ns = []
keys_under (image_id a s m) ns = map (λ (n : List ℕ). record { algorithm = a; signer = s; name = n }) ns

unfoldable pub layer_keys_under : Id → List Alias → List LayerKey
layer_keys_under no_id xs = []
layer_keys_under (image_id a s m) xs =
    map (λ (x : Alias). record { key = record { algorithm = a; signer = s; name = x.name }; object = x.object }) xs

-- under all of an image's IDs
unfoldable pub image_keys_of : List Id → List (List ℕ) → List Key
image_keys_of [] ns = []
image_keys_of (i ∷ is) ns = keys_under i ns ++ image_keys_of is ns

unfoldable pub layer_keys_of : List Id → List Alias → List LayerKey
layer_keys_of [] xs = []
layer_keys_of (i ∷ is) xs = layer_keys_under i xs ++ layer_keys_of is xs

unfoldable pub image_keys : Image → List Key
image_keys x = image_keys_of x.ids (self_names x.text)

unfoldable pub layer_keys : Image → List LayerKey
layer_keys x = layer_keys_of x.ids (contents x.text)
