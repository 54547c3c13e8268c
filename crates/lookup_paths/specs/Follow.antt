-- The end of an alias path, computed.
use Rattle.std.specs.Prelude.{ℕ, zero, suc, ◌+◌, List, [], ◌∷◌, ◌++◌, true, false, length, Option, None, Some}
use Rattle.reference.specs.References.{Layer, layer_digest, layer_alias, no_layer}
use Rattle.reference_digests.specs.declared.algorithm.Algorithm.{Algorithm}
use Rattle.manifest.specs.Names.{objects}
use Rattle.store_record.specs.Image.{Image}
use Rattle.store_keys.specs.Keys.{Key, LayerKey, layer_keys}
use Rattle.store_keys.specs.Clash.{is_same_key}

-- the layer keys that the images of a room define
unfoldable pub keys_in : List Image → List LayerKey
keys_in [] = []
keys_in (x ∷ xs) = layer_keys x ++ keys_in xs

-- the object of a layer key
unfoldable pub object_in : Key → List LayerKey → Option Layer
object_in k [] = None
object_in k (l ∷ ls) = elim (is_same_key l.key k) [ true ↦ Some l.object | false ↦ object_in k ls ]

-- what an alias stands for
unfoldable pub aliased_object : List Image → Layer → Option Layer
aliased_object xs (layer_alias a s n) = object_in (record { algorithm = a; signer = s; name = n }) (keys_in xs)
aliased_object xs (layer_digest a d) = None
aliased_object xs no_layer = None

-- how a path ends: it meets a digest, it comes to an alias that no image defines, or it goes on
pub data End : Type 0 where
  met : Algorithm → List ℕ → End
  undefined : End
  endless : End

-- on from the object of an alias, if it has one
unfoldable pub on_from : (Layer → End) → Option Layer → End
on_from next None = undefined
on_from next (Some l) = next l

-- within n steps
unfoldable pub follow : ℕ → List Image → Layer → End
follow zero xs (layer_digest a d) = met a d
follow zero xs (layer_alias a s n) = endless
follow zero xs no_layer = undefined
follow (suc k) xs (layer_digest a d) = met a d
follow (suc k) xs (layer_alias a s n) = on_from (λ l. follow k xs l) (aliased_object xs (layer_alias a s n))
follow (suc k) xs no_layer = undefined

-- the objects of all images' `contents`, image by image in the text's order
unfoldable pub objects_of : List Image → List Layer
objects_of [] = []
objects_of (x ∷ xs) = objects x.text ++ objects_of xs

-- how many they are
unfoldable pub object_count : List Image → ℕ
object_count [] = zero
object_count (x ∷ xs) = length (objects x.text) + object_count xs

-- how the path from a layer reference ends: one that takes more steps than there are objects comes to one of them again
unfoldable pub end_of : List Image → Layer → End
end_of xs l = follow (suc (object_count xs)) xs l
